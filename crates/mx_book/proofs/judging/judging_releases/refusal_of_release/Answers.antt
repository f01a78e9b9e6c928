use Rattle.std.proofs.Common.{◌∙◌, length}
use Rattle.mx_book.proofs.Chaining.{first, then, done}
use Rattle.mx_book.proofs.JudgingProofs.ReleaseLemmas.{release_refused, room_left}
use Rattle.mx_book.proofs.judging.judging_releases.refusal_of_release.Goals as goal

pub returns : goal.returns
returns g c =
    done _ _ (then (then (first c.in_ok-entry_count.ensures) c.in_ok-at.ensures) c.in_ok-facts.ensures) (λ book is.
    c.refusal_by_facts.ensures
    ∙ release_refused book c.args.release.now c.args.lines.now c.in_ok-at.at c.in_ok-facts.facts
    (room_left c.in_ok-entry_count.field-0 (length book) c.if-branch-ge-MOST_ENTRIES.false is.0.0) is.0.1 is.1)
