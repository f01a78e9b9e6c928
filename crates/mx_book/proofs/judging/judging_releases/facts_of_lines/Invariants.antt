use Rattle.std.proofs.Common.{length}
use Rattle.mx_book.specs.Facts.{either, lines_facts}
use Rattle.mx_book.proofs.Gathering.{Gathers}
use Rattle.mx_book.proofs.judging.judging_releases.facts_of_lines.Given as goal

-- so far, and what is left, give the whole
abbrev pub invariant-loop-line : goal.invariant-loop-line
invariant-loop-line g l =
    Gathers g.R.Records.reading l.initial.records l.records
    (λ book. either l.all (lines_facts book l.place l.kind l.rest)) (λ book. lines_facts book l.place l.kind l.lines)

abbrev pub decreases-loop-line : goal.decreases-loop-line
decreases-loop-line g l = length l.rest
