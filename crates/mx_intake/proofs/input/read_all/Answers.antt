use Rattle.std.proofs.Common.{take, arith}
use Rattle.std.proofs.lemmas.Grind.{common_steps}
use Rattle.mx_intake.proofs.InputLemmas.{takes_more}
use Rattle.mx_intake.proofs.input.read_all.Goals as goal

pub returns-in_err-extend_from_slice-in-Ok-clause-takes : goal.returns-in_err-extend_from_slice-in-Ok-clause-takes
returns-in_err-extend_from_slice-in-Ok-clause-takes g c =
    takes_more _ _ _ c.loop-chunk.bytes.items (take c.in-Ok.n c.read.new.buf) _ c.loop-chunk.invariant.1 c.in-Ok.ensures.bytes.0 (grind (arith, common_steps))
