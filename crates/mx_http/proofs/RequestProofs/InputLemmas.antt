-- How the bytes taken by several reads add up.
use Rattle.std.proofs.Common.{◌≤◌, ◌+◌, ℕ, List, length, Option, arith}
use Rattle.std.specs.Io.KnownBytes.{Consumes}
use Rattle.mx_intake.specs.Input.{TakesAtMost}
use Rattle.mx_intake.proofs.InputLemmas.{takes_more}

-- a take of at most so many more
pub takes_on : (o m n : Option (List ℕ)) (xs : List ℕ) (k most : ℕ) → Consumes o m xs → TakesAtMost m n k → length xs + k ≤ most → TakesAtMost o n most
takes_on o m n xs k most a b h = takes_more o m n xs b.0 most a b.1 (omega (arith, b.2))
