use Rattle.std.proofs.Common.{rules, [], ◌∷◌, pos}
use Rattle.sqlite.specs.declared.types.Value.TheVariants.{Int}
use Rattle.mx_table_rows.specs.chosen.Texts.{by_value}
use Rattle.mx_table_rows.proofs.TotalsProofs.Understood.{defect3_gone_deletes}
use Rattle.mx_table_rows.proofs.totals.in_place.set_found.Goals as goal

pub returns-clause-replaces : goal.returns-clause-replaces
returns-clause-replaces g c = c.replace_rows.ensures.replaces (by_value 0) (Int (pos c.args.row.now.deferral.seq) ∷ []) defect3_gone_deletes (search rules)
