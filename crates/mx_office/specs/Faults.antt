-- The faults of the office that faults of the tables are, and the answers to a question.
use Rattle.std.specs.Prelude.{◌≡◌, ◌≢◌, ◌⊎◌, List, [], ◌∷◌, length, nat_lt, nat_eq, ◌&&◌, ◌||◌, Bool, true, if◌then◌else◌, Option, Some, None, Result, Ok, Err}
use Rattle.mx_book.specs.declared.verdict.Refusal.{Refusal}
use Rattle.mx_layout.specs.declared.fault.Table.{Table}
use Rattle.mx_layout.specs.declared.fault.Table.TheVariants.{Office}
use Rattle.mx_layout.specs.declared.fault.TableFault.{TableFault}
use Rattle.mx_layout.specs.declared.fault.TableFault.TheVariants as table
use Rattle.mx_base.specs.declared.point.Point.{Point}
use Rattle.mx_registers.specs.points.Points.{is_on_way}
use Rattle.mx_layout.specs.Point.{point_cells, IsPoint}
use Rattle.mx_layout.specs.Reading.{HasOther}
use Rattle.mx_faults.specs.declared.moving.MoveFault.{MoveFault}
use Rattle.mx_faults.specs.declared.moving.MoveFault.TheVariants as move
use Rattle.sqlite.specs.Order.{Row}
use Rattle.mx_office.specs.Layout.{office_point}
use Rattle.mx_faults.specs.declared.fault.Fault.{Fault}
use Rattle.mx_faults.specs.declared.fault.Fault.TheVariants.{Memory, Store, Damaged}
use Rattle.mx_faults.specs.declared.fault.OpenFault.{OpenFault}
use Rattle.mx_faults.specs.declared.fault.OpenFault.TheVariants as unopened
use Rattle.mx_faults.specs.declared.fault.Ask.{Ask}
use Rattle.mx_faults.specs.declared.fault.Ask.TheVariants.{Refused, Failed}

-- want of memory and damage stay what they are, and anything else is the store's
abbrev pub fault_from : TableFault → Fault
fault_from table.Memory = Memory
fault_from (table.Damaged t) = Damaged t
fault_from table.Store = Store
fault_from table.NotOurs = Store
fault_from table.Exists = Store

-- why no office was opened, where the point could not be read
abbrev pub open_fault_from : TableFault → OpenFault
open_fault_from table.Memory = unopened.Memory
open_fault_from (table.Damaged t) = unopened.Damaged t
open_fault_from table.Store = unopened.Store
open_fault_from table.NotOurs = unopened.NotOurs
open_fault_from table.Exists = unopened.Store

-- the point is that of the office
abbrev pub is_office_point : Point → Bool
is_office_point p = (nat_eq p.layout office_point.layout && nat_eq p.step office_point.step) && nat_eq p.mark office_point.mark

-- why no office is opened in a file at this point: its layout is newer than that of the office, or no file can be at the point; none at that of the office, nor on the way there
abbrev pub open_answer : Point → Option OpenFault
open_answer p = if nat_lt office_point.layout p.layout then Some (unopened.NewerLayout p.layout) else if is_office_point p || is_on_way p then None else Some (unopened.Damaged Office)

-- why no office was opened, where this stopped the move of its file, whose table `office` was read before
abbrev pub moved_fault_from : MoveFault → OpenFault
moved_fault_from move.Memory = unopened.Memory
moved_fault_from move.Store = unopened.Store
moved_fault_from (move.Damaged t) = unopened.Damaged t
moved_fault_from _ = unopened.Damaged Office

-- what a call answers, of what was looked up: a fault of the tables is one of the office
abbrev pub call_answer : {X : Type 0} → Result X TableFault → Result X Fault
call_answer (Ok x) = Ok x
call_answer (Err fault) = Err (fault_from fault)

-- what a question is answered, of what was looked up
abbrev pub question_answer : {X : Type 0} → Result (Result X Refusal) TableFault → Result X Ask
question_answer (Ok (Ok x)) = Ok x
question_answer (Ok (Err refusal)) = Err (Refused refusal)
question_answer (Err fault) = Err (Failed (fault_from fault))

-- what was asked for, or the refusal where there is none
abbrev pub found_or : {X : Type 0} → Refusal → Option X → Result X Ask
found_or refusal (Some x) = Ok x
found_or refusal None = Err (Refused refusal)

-- the answer is this one, unless memory or the store failed
abbrev pub IsAnswer : {X : Type 0} → Result X Ask → Result X Ask → Type 0
IsAnswer said result = (result ≡ said) ⊎ ((result ≡ Err (Failed Memory)) ⊎ (result ≡ Err (Failed Store)))

-- want of memory or the store
abbrev pub IsStop : OpenFault → Type 0
IsStop why = (why ≡ unopened.Memory) ⊎ (why ≡ unopened.Store)

-- no office was opened: for this reason, or memory or the store failed
abbrev pub IsUnopened : Option OpenFault → OpenFault → Type 0
IsUnopened said why = (said ≡ Some why) ⊎ IsStop why

-- a move was stopped: memory or the store failed, or a table is damaged
abbrev pub IsStopped : OpenFault → Type 0
IsStopped why = IsStop why ⊎ ((t : Table) × (why ≡ unopened.Damaged t))

-- the point says why no office was opened; or a file can be at it on the way, and its move met a table that is damaged
abbrev pub SaysWhy : Point → OpenFault → Type 0
SaysWhy p why = (open_answer p ≡ Some why) ⊎ ((is_on_way p ≡ true) × (t : Table) × (why ≡ unopened.Damaged t))

-- why no office was opened, by the rows of its table `office`: memory or the store failed; there is not exactly one row; the one is no point; or the point that it is says so
abbrev pub IsReason : List Row → OpenFault → Type 0
IsReason rows why = IsStop why ⊎ (((why ≡ unopened.NotOurs) × (length rows ≢ 1)) ⊎ (((why ≡ unopened.Damaged Office) × (length rows ≡ 1) × HasOther IsPoint rows) ⊎ ((p : Point) × (rows ≡ point_cells p ∷ []) × SaysWhy p why)))
