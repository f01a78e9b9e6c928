use Rattle.std.proofs.Common.{None, rules, [], ◌∷◌, pos}
use Rattle.sqlite.specs.declared.types.Value.TheVariants.{Int}
use Rattle.mx_layout.specs.kept.Cells.{kept_extension}
use Rattle.mx_table_rows.specs.chosen.Texts.{by_value}
use Rattle.mx_table_rows.proofs.ChosenProofs.Understood.{extension_by_defect_finds}
use Rattle.mx_table_rows.proofs.chosen.defects.extension_by_defect.Goals as goal

pub returns-clause-reads : goal.returns-clause-reads
returns-clause-reads g c = c.rows_chosen.ensures.reads None kept_extension.order (by_value 1) (Int (pos c.args.defect) ∷ []) extension_by_defect_finds (search rules)
