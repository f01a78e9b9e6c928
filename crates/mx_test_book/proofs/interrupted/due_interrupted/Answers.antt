use Rattle.mx_test_book.specs.declared.failing.Failing.{Failing}
use Rattle.mx_test_book.proofs.FailingLemmas.{ends_alone}
use Rattle.mx_test_book.proofs.interrupted.due_interrupted.Goals as goal

pub returns : goal.returns
returns c =
    let start : Failing = record { book = c.args.book; left = c.args.questions; code = c.args.code } in
    ends_alone start c.due_of_kind.new.records _ c.due_of_kind.result c.due_of_kind.ensures
