use Rattle.mx_book.proofs.JudgingProofs.FactsLemmas.{one_more, all_seen}
use Rattle.mx_book.proofs.Gathering.{goes_on, gathered}
use Rattle.mx_book.proofs.judging.judging_releases.facts_of_lines.Goals as goal

pub loop-line-preserved : goal.loop-line-preserved
loop-line-preserved g c =
    goes_on c.loop-line.invariant c.in_ok-facts.ensures (λ book is.
    one_more book c.args.place.now c.args.kind.now c.loop-line.all c.in_ok-facts.facts c.either-all.result _ c.in-Some.line.now c.loop-line.rest.now c.in-Some.later.now
    c.in-Some.ensures.cases.0 is c.either-all.ensures)

pub returns : goal.returns
returns g c = gathered c.loop-line.invariant c.loop-line.all (λ book.
    all_seen book c.args.place.now c.args.kind.now c.loop-line.all _ c.loop-line.rest.now c.in_default.ensures.cases)
