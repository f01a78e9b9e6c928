use Rattle.mx_test_book.specs.declared.failing.Failing.{Failing}
use Rattle.mx_test_book.proofs.FailingLemmas.{ends}
use Rattle.mx_test_book.proofs.interrupted.list_interrupted.Goals as goal

pub returns : goal.returns
returns c =
    let start : Failing = record { book = c.args.book; left = c.args.questions; code = c.args.code } in
    ends start c.list_report.new.records _ c.list_report.result c.list_report.ensures.answers
