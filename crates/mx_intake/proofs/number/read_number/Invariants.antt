use Rattle.mx_intake.proofs.NumberLemmas.{Reads}
use Rattle.mx_intake.proofs.number.read_number.Given as goal

abbrev pub invariant-loop-byte : goal.invariant-loop-byte
invariant-loop-byte l = Reads l.bytes l.byte-index l.number
