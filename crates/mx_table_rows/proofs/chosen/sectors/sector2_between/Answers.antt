use Rattle.std.proofs.Common.{None, rules, [], ◌∷◌, pos}
use Rattle.sqlite.specs.declared.types.Value.TheVariants.{Int}
use Rattle.mx_layout.specs.kept.Cells.{kept_sector2_rows}
use Rattle.mx_table_rows.specs.chosen.Texts.{between}
use Rattle.mx_table_rows.proofs.ChosenProofs.Understood.{sector2_between_finds}
use Rattle.mx_table_rows.proofs.chosen.sectors.sector2_between.Goals as goal

pub returns-clause-reads : goal.returns-clause-reads
returns-clause-reads g c = c.rows_chosen.ensures.reads None kept_sector2_rows.order (between 1 4) (Int (pos c.args.aircraft) ∷ Int (pos c.args.from) ∷ Int (pos c.args.before) ∷ []) sector2_between_finds (search rules)
