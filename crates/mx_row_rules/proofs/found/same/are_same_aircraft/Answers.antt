use Rattle.std.proofs.Common.{rules}
use Rattle.mx_row_rules.proofs.FoundProofs.EqualLemmas.{equal_lists}
use Rattle.mx_row_rules.proofs.found.same.are_same_aircraft.Goals as goal

pub returns : goal.returns
returns c = equal_lists _ c.eq.result c.args.found.now c.args.given.now c.eq.ensures (λ x y. search rules)
