use Rattle.std.proofs.Common.{rules, [], ◌∷◌, pos}
use Rattle.sqlite.specs.declared.types.Value.TheVariants.{Int}
use Rattle.mx_table_rows.specs.chosen.Texts.{up_to}
use Rattle.mx_moves.proofs.DeferralTexts.{defect_gone_deletes}
use Rattle.mx_moves.proofs.later_rows.delete_defect.Goals as goal

pub returns-clause-deletes : goal.returns-clause-deletes
returns-clause-deletes g c = c.delete_rows.ensures.deletes (up_to 0) (Int (pos c.args.seq) ∷ []) defect_gone_deletes (search rules)
