use Rattle.std.proofs.Common.{arith}
use Rattle.mx_base.specs.Identifier.{IsIdentifier}
use Rattle.mx_base.proofs.IdentifierLemmas.{IsKept-padded}
use Rattle.mx_base.proofs.identifiers.Identifier.read.Goals as goal

pub invariant_of-result : goal.invariant_of-result
invariant_of-result g c =
    let name : IsIdentifier g.A.Alphabet.allows g.row.N c.as_bytes-source.result.now = grind arith in
    IsKept-padded _ _ _ _ name (rw c.as_bytes-source.ensures.value c.utf8.text) c.padded.ensures
