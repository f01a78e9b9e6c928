use Rattle.std.proofs.Common.{None, rules, [], ◌∷◌, pos}
use Rattle.sqlite.specs.declared.types.Value.TheVariants.{Int, Text}
use Rattle.mx_layout.specs.kept.Cells.{kept_done3}
use Rattle.mx_table_rows.specs.chosen.Texts.{by_values}
use Rattle.mx_table_rows.proofs.ChosenProofs.Understood.{done3_by_item_and_task_finds}
use Rattle.mx_table_rows.proofs.chosen.later.done3_by_item_and_task.Goals as goal

pub returns-clause-reads : goal.returns-clause-reads
returns-clause-reads g c = c.rows_chosen.ensures.reads None kept_done3.order (by_values 0 1) (Int (pos c.args.item) ∷ Text c.args.task.now ∷ []) done3_by_item_and_task_finds (search rules)
