use Rattle.std.proofs.Common.{rules, [], ◌∷◌, pos}
use Rattle.sqlite.specs.declared.types.Value.TheVariants.{Int}
use Rattle.mx_table_rows.specs.chosen.Texts.{by_value}
use Rattle.mx_moves.proofs.ComponentTexts.{removals_gone}
use Rattle.mx_moves.proofs.rows.delete_removal1.Goals as goal

pub returns-clause-deletes : goal.returns-clause-deletes
returns-clause-deletes g c = c.delete_rows.ensures.deletes (by_value 1) (Int (pos c.args.component) ∷ []) removals_gone (search rules)
