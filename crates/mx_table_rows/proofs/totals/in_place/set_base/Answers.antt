use Rattle.std.proofs.Common.{rules, [], ◌∷◌, pos}
use Rattle.sqlite.specs.declared.types.Value.TheVariants.{Int, Text}
use Rattle.mx_table_rows.specs.chosen.Texts.{by_values}
use Rattle.mx_table_rows.proofs.TotalsProofs.Understood.{base2_gone_deletes}
use Rattle.mx_table_rows.proofs.totals.in_place.set_base.Goals as goal

pub returns-clause-replaces : goal.returns-clause-replaces
returns-clause-replaces g c = c.replace_rows.ensures.replaces (by_values 0 1) (Int (pos c.args.row.now.item) ∷ Text c.args.row.now.task ∷ []) base2_gone_deletes (search rules)
