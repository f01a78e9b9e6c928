use Rattle.std.proofs.Common.{◌∙◌, ap, Some, arith}
use Rattle.std.proofs.lemmas.Bool.Decides.{nat_tests}
use Rattle.mx_lists.proofs.ForecastLemmas.{row_none, row_reached, row_past}
use Rattle.mx_lists.proofs.forecast.row_within.Goals as goal

pub returns-in-None : goal.returns-in-None
returns-in-None c = row_none c.args.day c.args.days c.args.minutes c.args.cycles c.args.row.now c.days_until.result c.days_until.ensures c.in-None.is

pub returns-then-n-from : goal.returns-then-n-from
returns-then-n-from c = ap (λ r. Some r) c.row_after.ensures ∙ row_reached c.args.day c.args.days c.args.minutes c.args.cycles c.args.row.now c.days_until.result c.in-Some.n c.days_until.ensures c.in-Some.is (grind (arith, nat_tests))

pub returns-else-n-from : goal.returns-else-n-from
returns-else-n-from c = row_past c.args.day c.args.days c.args.minutes c.args.cycles c.args.row.now c.days_until.result c.in-Some.n c.days_until.ensures c.in-Some.is (grind (arith, nat_tests))
