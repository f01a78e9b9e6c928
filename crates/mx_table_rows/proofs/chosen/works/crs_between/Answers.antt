use Rattle.std.proofs.Common.{None, rules, [], ◌∷◌, pos}
use Rattle.sqlite.specs.declared.types.Value.TheVariants.{Int}
use Rattle.mx_layout.specs.kept.Cells.{kept_crs}
use Rattle.mx_table_rows.specs.chosen.Texts.{between}
use Rattle.mx_table_rows.proofs.ChosenProofs.Understood.{crs_between_finds}
use Rattle.mx_table_rows.proofs.chosen.works.crs_between.Goals as goal

pub returns-clause-reads : goal.returns-clause-reads
returns-clause-reads g c = c.rows_chosen.ensures.reads None kept_crs.order (between 1 3) (Int (pos c.args.item) ∷ Int (pos c.args.from) ∷ Int (pos c.args.before) ∷ []) crs_between_finds (search rules)
