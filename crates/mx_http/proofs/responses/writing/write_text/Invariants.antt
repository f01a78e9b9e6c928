use Rattle.std.proofs.Common.{length}
use Rattle.mx_http.proofs.ResponsesProofs.WritingLemmas.{IsPartWritten}
use Rattle.mx_http.proofs.responses.writing.write_text.Given as goal

abbrev pub invariant-loop-rest : goal.invariant-loop-rest
invariant-loop-rest g l = IsPartWritten (g.W.Write.contents l.fn.writer) (g.W.Write.contents l.writer) l.text l.rest

abbrev pub decreases-loop-rest : goal.decreases-loop-rest
decreases-loop-rest g l = length l.rest
