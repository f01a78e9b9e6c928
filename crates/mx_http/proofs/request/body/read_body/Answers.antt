use Rattle.std.proofs.Common.{arith}
use Rattle.std.proofs.lemmas.Grind.{common_steps}
use Rattle.mx_http.proofs.RequestProofs.BodyLemmas.{begun_more, takes_of, takes_at_fault}
use Rattle.mx_http.proofs.request.body.read_body.Goals as goal

pub returns-in_err-read_some-clause-takes : goal.returns-in_err-read_some-clause-takes
returns-in_err-read_some-clause-takes g c =
    takes_at_fault _ _ _ c.args.begun.now c.loop-body.body.items c.args.length _ c.loop-body.invariant c.read_some.ensures.takes (grind (arith, common_steps))

pub returns-then-branch-eq0-clause-takes : goal.returns-then-branch-eq0-clause-takes
returns-then-branch-eq0-clause-takes g c =
    takes_of _ _ c.args.begun.now c.read_some.new.bytes.items c.args.length
    (begun_more _ _ _ c.args.begun.now c.loop-body.body.items _ c.args.length _ _ c.loop-body.invariant c.in_ok-read_some.ensures.ok (grind (arith, common_steps)))
