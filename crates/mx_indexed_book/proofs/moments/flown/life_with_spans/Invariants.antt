use Rattle.std.proofs.Common.{◌≡◌, length}
use Rattle.mx_registers.specs.kept.Moments.{flown_while_all, use_more}
use Rattle.mx_indexed_book.specs.moments.Flown.{at_most}
use Rattle.mx_indexed_book.proofs.moments.flown.life_with_spans.Given as goal

-- the life so far with what was flown in the spans that are left is that with what was flown in all
abbrev pub invariant-loop-span : goal.invariant-loop-span
invariant-loop-span l =
    record {
      all : at_most (use_more (flown_while_all l.landings l.until l.rest) l.reached) ≡ at_most (use_more (flown_while_all l.landings l.until l.spans) l.life);
      fits : at_most l.reached ≡ l.reached;
    }

abbrev pub decreases-loop-span : goal.decreases-loop-span
decreases-loop-span l = length l.rest
