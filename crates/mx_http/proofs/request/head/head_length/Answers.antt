use Rattle.std.proofs.Common.{sym, ◌∙◌}
use Rattle.mx_http.proofs.RequestProofs.HeadLemmas.{passed_more}
use Rattle.mx_http.proofs.request.head.head_length.Goals as goal

pub loop-later-preserved : goal.loop-later-preserved
loop-later-preserved c =
    passed_more c.args.bytes.now c.loop-later.rest.now c.in-Some.later.now c.in-Some.field-0-0.now c.loop-later.passed c.loop-later.invariant
    c.in-Some.ensures.cases (sym c.starts_with.ensures.value ∙ c.if-starts_with.false)
