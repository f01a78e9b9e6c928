use Rattle.std.proofs.Common.{length}
use Rattle.mx_http.proofs.RequestProofs.HeadLemmas.{IsPassed}
use Rattle.mx_http.proofs.request.head.head_length.Given as goal

abbrev pub invariant-loop-later : goal.invariant-loop-later
invariant-loop-later l = IsPassed l.bytes l.rest l.passed

abbrev pub decreases-loop-later : goal.decreases-loop-later
decreases-loop-later l = length l.rest
