use Rattle.std.proofs.Common.{None, rules, [], ◌∷◌, pos}
use Rattle.sqlite.specs.declared.types.Value.TheVariants.{Int}
use Rattle.mx_layout.specs.kept.Cells.{kept_fit1}
use Rattle.mx_table_rows.specs.chosen.Texts.{by_value}
use Rattle.mx_moves.proofs.ComponentTexts.{fittings_find}
use Rattle.mx_moves.proofs.rows.fittings_of.Goals as goal

pub returns-clause-reads : goal.returns-clause-reads
returns-clause-reads g c = c.rows_chosen.ensures.reads None kept_fit1.order (by_value 1) (Int (pos c.args.component) ∷ []) fittings_find (search rules)
