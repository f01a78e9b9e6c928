use Rattle.std.proofs.Common.{◌≡◌, ◌++◌, ◌∷◌, ◌*◌, ◌^◌, ◌≤◌, length}
use Rattle.std.specs.List.{AllByRecursion}
use Rattle.mx_indexed_book.specs.moments.Landings.{IsLandingOfDay, none_flown, sums_after}
use Rattle.mx_indexed_book.proofs.moments.landings.sums_of.Given as goal

-- the sums so far and those of the sectors that are left are all; each sector so far is one of a day, and adds less than 2 ^ 32 of either
abbrev pub invariant-loop-row : goal.invariant-loop-row
invariant-loop-row l =
    record {
      all : l.sums.items ++ sums_after l.flown l.rest ≡ none_flown ∷ sums_after none_flown l.rows;
      minutes : l.flown.minutes ≤ length l.sums.items * 2 ^ 32;
      cycles : l.flown.cycles ≤ length l.sums.items * 2 ^ 32;
      bounded : AllByRecursion IsLandingOfDay l.rest → AllByRecursion IsLandingOfDay l.rows;
    }

abbrev pub decreases-loop-row : goal.decreases-loop-row
decreases-loop-row l = length l.rest
