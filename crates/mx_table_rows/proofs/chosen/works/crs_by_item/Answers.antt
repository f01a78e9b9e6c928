use Rattle.std.proofs.Common.{None, rules, [], ◌∷◌, pos}
use Rattle.sqlite.specs.declared.types.Value.TheVariants.{Int}
use Rattle.mx_layout.specs.kept.Cells.{kept_crs}
use Rattle.mx_table_rows.specs.chosen.Texts.{by_value}
use Rattle.mx_table_rows.proofs.ChosenProofs.Understood.{crs_by_item_finds}
use Rattle.mx_table_rows.proofs.chosen.works.crs_by_item.Goals as goal

pub returns-clause-reads : goal.returns-clause-reads
returns-clause-reads g c = c.rows_chosen.ensures.reads None kept_crs.order (by_value 1) (Int (pos c.args.item) ∷ []) crs_by_item_finds (search rules)
