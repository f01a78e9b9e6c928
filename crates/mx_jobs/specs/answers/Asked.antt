-- A question that was asked of an open office, and what is said of its answer.
use Rattle.std.specs.Prelude.{List, Result, IfOk}
use Rattle.sqlite.specs.Store.{Ghosts}
use Rattle.mx_book.specs.declared.verdict.Refusal.TheVariants.{UnknownAircraft}
use Rattle.mx_office.specs.Calls.{stop_asking, IsAsked}
use Rattle.mx_office.specs.Faults.{found_or}
use Rattle.mx_office.specs.Questions.{IsAnsweredBy}
use Rattle.mx_faults.specs.declared.fault.Ask.{Ask}
use Rattle.mx_office.specs.declared.office.Office.{Office}
use Rattle.mx_lists.specs.Report.{IsOfKind, report_of}
use Rattle.mx_lists.specs.declared.question.Question.{Question}
use Rattle.mx_lists.specs.declared.report.Report.{Report}

-- a question was asked, no table changed, and P holds of the answer: of the book that the tables stand for, or of whichever book they hold
abbrev pub Asks : {S : Type 0} {g : Ghosts S} → Question → Office S g → Office S g → (Result Report Ask → Type 0) → Type 0
Asks question old new P =
    (answer : Result Report Ask) × IsAsked (stop_asking answer) old new
    × IsAnsweredBy (λ book. found_or UnknownAircraft (report_of book question)) old new answer
    × IfOk answer (IsOfKind question) × P answer
