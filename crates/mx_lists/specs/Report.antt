-- The list of a book that a question asks for, whichever list it is: of one aircraft or of all.
use Rattle.std.specs.Prelude.{ℕ, List, Option, Some, None, ⊤}
use Rattle.std.specs.Option.{option_map}
use Rattle.mx_book.specs.commands.Act.{Entry}
use Rattle.mx_lists.specs.DueList.{due_list}
use Rattle.mx_lists.specs.Fleet.{deferred, fleet, outlook}
use Rattle.mx_lists.specs.Forecast.{forecast}
use Rattle.mx_lists.specs.Inventory.{all_aircraft, all_components}
use Rattle.mx_lists.specs.LimitList.{limits}
use Rattle.mx_lists.specs.LifeList.{life_list}
use Rattle.mx_lists.specs.declared.question.Question.{Question}
use Rattle.mx_lists.specs.declared.question.Question.TheVariants as asked
use Rattle.mx_lists.specs.declared.report.Report.{Report}
use Rattle.mx_lists.specs.declared.report.Report.TheVariants as report

-- the registration of the aircraft that a question asks of, none where it asks of all
abbrev pub tail_asked : Question → Option (List ℕ)
tail_asked (asked.Life tail) = Some tail
tail_asked (asked.Due tail day) = Some tail
tail_asked (asked.Forecast tail day days minutes cycles) = Some tail
tail_asked (asked.Limits tail day) = Some tail
tail_asked (asked.Fleet day) = None
tail_asked (asked.Outlook day days minutes cycles) = None
tail_asked asked.Aircraft = None
tail_asked asked.Components = None
tail_asked (asked.Deferred day) = None

-- the list of the book that a question asks for, where the registration that it names is known
abbrev pub report_of : List Entry → Question → Option Report
report_of book (asked.Life tail) = option_map report.Life (life_list book tail)
report_of book (asked.Due tail day) = option_map report.Due (due_list book tail day)
report_of book (asked.Forecast tail day days minutes cycles) = option_map report.Forecast (forecast book tail day days minutes cycles)
report_of book (asked.Limits tail day) = option_map report.Limits (limits book tail day)
report_of book (asked.Fleet day) = Some (report.Fleet (fleet book day))
report_of book (asked.Outlook day days minutes cycles) = Some (report.Outlook (outlook book day days minutes cycles))
report_of book asked.Aircraft = Some (report.Aircraft (all_aircraft book))
report_of book asked.Components = Some (report.Components (all_components book))
report_of book (asked.Deferred day) = Some (report.Deferred (deferred book day))

-- the list is of the kind that a question asks for
abbrev pub IsOfKind : Question → Report → Type 0
IsOfKind (asked.Life tail) (report.Life list) = ⊤
IsOfKind (asked.Due tail day) (report.Due list) = ⊤
IsOfKind (asked.Forecast tail day days minutes cycles) (report.Forecast list) = ⊤
IsOfKind (asked.Limits tail day) (report.Limits list) = ⊤
IsOfKind (asked.Fleet day) (report.Fleet list) = ⊤
IsOfKind (asked.Outlook day days minutes cycles) (report.Outlook list) = ⊤
IsOfKind asked.Aircraft (report.Aircraft rows) = ⊤
IsOfKind asked.Components (report.Components rows) = ⊤
IsOfKind (asked.Deferred day) (report.Deferred list) = ⊤
IsOfKind _ _ = ⊥
