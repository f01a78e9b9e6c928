use Rattle.std.proofs.Common.{◌≡◌, ◌++◌, length, map, Some}
use Rattle.mx_indexed_book.proofs.maps.positions.parts_of.Given as goal

-- so far, and what is left, give the whole
abbrev pub invariant-loop-position : goal.invariant-loop-position
invariant-loop-position l = l.parts.items ++ map (λ p. ((l.tail, p.0), Some p.1)) l.rest ≡ map (λ p. ((l.tail, p.0), Some p.1)) l.positions

abbrev pub decreases-loop-position : goal.decreases-loop-position
decreases-loop-position l = length l.rest
