-- What is answered to a question for a list or for the life of an item: that, a refusal, or what stopped it.
use Rattle.std.specs.Prelude.{◌≡◌, List, Option, Result, Ok, Err, IfOk, ok_or}
use Rattle.sqlite.specs.Tree.{Trees}
use Rattle.mx_base.specs.declared.amounts.Use.{Use}
use Rattle.mx_book.specs.commands.Act.{Entry}
use Rattle.mx_book.specs.declared.commands.item.Item.{Item}
use Rattle.mx_book.specs.declared.commands.item.Item.TheVariants.{Airframe, Component}
use Rattle.mx_book.specs.declared.verdict.Refusal.{Refusal}
use Rattle.mx_book.specs.declared.verdict.Refusal.TheVariants.{UnknownAircraft, UnknownComponent}
use Rattle.mx_layout.specs.declared.fault.TableFault.{TableFault}
use Rattle.mx_layout.specs.declared.fault.TableFault.TheVariants.{Memory}
use Rattle.mx_lists.specs.Report.{IsOfKind}
use Rattle.mx_lists.specs.declared.question.Question.{Question}
use Rattle.mx_lists.specs.declared.report.Report.{Report}
use Rattle.mx_lists.specs.declared.stop.Stop.{Stop}
use Rattle.mx_lists.specs.declared.stop.Stop.TheVariants.{NoMemory, Fault}
use Rattle.mx_lookups.specs.numbers.Given.{LifeOf}
use Rattle.mx_row_judge.specs.Answering.{AnswerListsAs}

-- the list, the refusal of an unknown aircraft where there is none, or what stopped it: want of memory is one of the faults of look-ups
abbrev pub answered : {X : Type 0} → Result (Option X) (Stop TableFault) → Result (Result X Refusal) TableFault
answered (Ok list) = Ok (ok_or list UnknownAircraft)
answered (Err NoMemory) = Err Memory
answered (Err (Fault fault)) = Err fault

-- what is listed of an aircraft, or the refusal of an unknown one, is what is so in each book as which the rows answer
abbrev pub ListOf : {X : Type 0} → (List Entry → Option X) → Trees → Result X Refusal → Type 0
ListOf what trees answer = (book : List Entry) → AnswerListsAs trees book → answer ≡ ok_or (what book) UnknownAircraft

-- a list that was answered is of the kind that the question asks for
abbrev pub HasKind : Question → Result (Result Report Refusal) TableFault → Type 0
HasKind question answer = IfOk answer (λ found. IfOk found (IsOfKind question))

-- why an item is unknown
abbrev pub unknown : Item → Refusal
unknown (Airframe tail) = UnknownAircraft
unknown (Component serial) = UnknownComponent

-- the life that the rows of an item give, or why it is unknown
abbrev pub LifeAnswered : Item → Trees → Result Use Refusal → Type 0
LifeAnswered item trees answer = (found : Option Use) × LifeOf item trees found × (answer ≡ ok_or found (unknown item))
