use Rattle.std.proofs.Common.{None, rules, [], ◌∷◌, pos}
use Rattle.sqlite.specs.declared.types.Value.TheVariants.{Int}
use Rattle.mx_layout.specs.kept.Cells.{kept_defect3}
use Rattle.mx_table_rows.specs.chosen.Texts.{by_value}
use Rattle.mx_table_rows.proofs.ChosenProofs.Understood.{defect3_by_aircraft_finds}
use Rattle.mx_table_rows.proofs.chosen.later.defect3_by_aircraft.Goals as goal

pub returns-clause-reads : goal.returns-clause-reads
returns-clause-reads g c = c.rows_chosen.ensures.reads None kept_defect3.order (by_value 1) (Int (pos c.args.aircraft) ∷ []) defect3_by_aircraft_finds (search rules)
