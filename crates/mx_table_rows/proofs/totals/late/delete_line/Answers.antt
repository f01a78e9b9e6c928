use Rattle.std.proofs.Common.{rules, [], ◌∷◌, pos}
use Rattle.sqlite.specs.declared.types.Value.TheVariants.{Int, Text}
use Rattle.mx_table_rows.specs.chosen.Texts.{by_four_values}
use Rattle.mx_table_rows.proofs.TotalsProofs.Understood.{done3_gone_deletes}
use Rattle.mx_table_rows.proofs.totals.late.delete_line.Goals as goal

pub returns-clause-deletes : goal.returns-clause-deletes
returns-clause-deletes g c = c.delete_rows.ensures.deletes by_four_values (Int (pos c.args.row.now.item) ∷ Text c.args.row.now.task ∷ Int (pos c.args.row.now.seq) ∷ Int (pos c.args.row.now.line) ∷ []) done3_gone_deletes (search rules)
