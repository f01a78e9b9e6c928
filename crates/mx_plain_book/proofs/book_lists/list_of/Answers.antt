use Rattle.mx_lists.specs.Report.{report_of}
use Rattle.mx_plain_book.proofs.Told.{told}
use Rattle.mx_plain_book.proofs.book_lists.list_of.Goals as goal

pub returns : goal.returns
returns c =
    told (record { book = c.args.book }) c.list_report.new.records c.list_report.result c.unless_no_memory.result
    (λ book. report_of book c.args.question.now) c.list_report.ensures.answers c.unless_no_memory.ensures
