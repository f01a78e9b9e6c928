use Rattle.std.proofs.Common.{rules, [], ◌∷◌, pos}
use Rattle.sqlite.specs.declared.types.Value.TheVariants.{Int, Text}
use Rattle.mx_table_rows.specs.chosen.Texts.{by_values}
use Rattle.mx_table_rows.proofs.TotalsProofs.Understood.{done3_of_task_gone_deletes}
use Rattle.mx_table_rows.proofs.totals.instead.set_done_rows.Goals as goal

pub returns-clause-replaces : goal.returns-clause-replaces
returns-clause-replaces g c = c.replace_all.ensures.replaces (by_values 0 1) (Int (pos c.args.item) ∷ Text c.args.task.now ∷ []) done3_of_task_gone_deletes (search rules)
