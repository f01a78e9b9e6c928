use Rattle.std.proofs.Common.{◌≤◌, List, ℕ, length, subst}
use Rattle.mx_http.specs.declared.request.head.TheConstants.{MOST_HEAD}
use Rattle.mx_http.proofs.RequestProofs.HeadLemmas.{within_front}
use Rattle.mx_http.proofs.request.head.head_of.Goals as goal

pub returns-in-Some-clause-within : goal.returns-in-Some-clause-within
returns-in-Some-clause-within c = within_front MOST_HEAD c.in-Some.length c.args.bytes.now (subst (λ (bytes : List ℕ). c.in-Some.length ≤ length bytes) c.front_of.ensures c.in-Some.ensures.within)
