use Rattle.std.proofs.Common.{rules, [], ◌∷◌, pos}
use Rattle.sqlite.specs.declared.types.Value.TheVariants.{Int, Text}
use Rattle.mx_table_rows.specs.chosen.Texts.{by_four_values}
use Rattle.mx_table_rows.proofs.TotalsProofs.Understood.{done3_gone_deletes}
use Rattle.mx_table_rows.proofs.totals.in_place.set_done_row.Goals as goal

pub returns-clause-replaces : goal.returns-clause-replaces
returns-clause-replaces g c = c.replace_rows.ensures.replaces by_four_values (Int (pos c.args.row.now.item) ∷ Text c.args.row.now.task ∷ Int (pos c.args.row.now.seq) ∷ Int (pos c.args.row.now.line) ∷ []) done3_gone_deletes (search rules)
