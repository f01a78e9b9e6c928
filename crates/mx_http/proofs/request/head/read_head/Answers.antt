use Rattle.std.proofs.Common.{inl, inr, ap, not, ◌∙◌, arith}
use Rattle.std.proofs.lemmas.Grind.{common_steps}
use Rattle.mx_http.specs.request.Head.{head_length}
use Rattle.mx_http.proofs.RequestProofs.HeadLemmas.{enough, head_there}
use Rattle.mx_http.proofs.RequestProofs.InputLemmas.{takes_on}
use Rattle.mx_http.proofs.request.head.read_head.Goals as goal
use Rattle.mx_http.proofs.request.head.read_head.Goals.{then-loop-bytes-test+else-is_none, else-loop-bytes-test}

pub returns-in_err-read_some-clause-takes : goal.returns-in_err-read_some-clause-takes
returns-in_err-read_some-clause-takes g c =
    takes_on _ _ _ c.loop-bytes.bytes.items _ _ c.loop-bytes.invariant.1 c.read_some.ensures.takes (grind (arith, common_steps))

pub returns-clause-enough : goal.returns-clause-enough
returns-clause-enough g c =
    enough _ _ c.loop-bytes.bytes.items c.loop-bytes.invariant.1 (grind (arith, common_steps))
    (elim c.loop-bytes-test.branch [
      | then-loop-bytes-test+else-is_none w ↦
          inr (inl (head_there w.head_length.result c.loop-bytes.bytes.items (w.head_length.ensures.exact ∙ ap head_length w.deref.ensures.value) (w.is_none.ensures ∙ ap not w.if-is_none.false)))
      | else-loop-bytes-test w ↦ inl (grind (arith, common_steps))
    ])
