use Rattle.std.proofs.Common.{◌≡◌, ◌+◌, length}
use Rattle.mx_book.specs.Life.{selected, minutes_of, cycles_of}
use Rattle.mx_plain_book.proofs.lives.use_after_sectors.Given as goal

-- so far, and what is left, give the whole
abbrev pub invariant-loop-entry : goal.invariant-loop-entry
invariant-loop-entry l = record {
  minutes : l.minutes + minutes_of (selected l.entries l.item l.until l.rest) ≡ l.initial.minutes + minutes_of (selected l.entries l.item l.until l.entries);
  cycles : l.cycles + cycles_of (selected l.entries l.item l.until l.rest) ≡ l.initial.cycles + cycles_of (selected l.entries l.item l.until l.entries);
}

abbrev pub decreases-loop-entry : goal.decreases-loop-entry
decreases-loop-entry l = length l.rest
