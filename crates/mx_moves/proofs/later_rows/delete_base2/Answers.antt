use Rattle.std.proofs.Common.{rules, [], ◌∷◌, pos}
use Rattle.sqlite.specs.declared.types.Value.TheVariants.{Int}
use Rattle.mx_table_rows.specs.chosen.Texts.{by_value}
use Rattle.mx_moves.proofs.BaseTexts.{bases_gone}
use Rattle.mx_moves.proofs.later_rows.delete_base2.Goals as goal

pub returns-clause-deletes : goal.returns-clause-deletes
returns-clause-deletes g c = c.delete_rows.ensures.deletes (by_value 0) (Int (pos c.args.item) ∷ []) bases_gone (search rules)
