use Rattle.mx_test_book.specs.declared.failing.Failing.{Failing}
use Rattle.mx_test_book.proofs.FailingLemmas.{ends_alone}
use Rattle.mx_test_book.proofs.interrupted.judge_interrupted.Goals as goal

pub returns : goal.returns
returns c =
    let start : Failing = record { book = c.args.book; left = c.args.questions; code = c.args.code } in
    ends_alone start c.verdict_on.new.records _ c.verdict_on.result c.verdict_on.ensures
