-- The line of a fault, and the line on standard error that says why a word ends before its work is done.
use Rattle.std.specs.Prelude.{ℕ, List, [], ◌∷◌, ◌++◌, codes}
use Rattle.std.specs.Fmt.{decimal}
use Rattle.mx_layout.specs.Names.{table_name}
use Rattle.mx_layout.specs.declared.fault.TableFault.{TableFault}
use Rattle.mx_layout.specs.declared.fault.TableFault.TheVariants as table
use Rattle.mx_intake.specs.declared.fault.IntakeFault.{IntakeFault}
use Rattle.mx_faults.specs.declared.moving.MoveFault.{MoveFault}
use Rattle.mx_faults.specs.declared.moving.MoveFault.TheVariants as moving
use Rattle.mx_faults.specs.declared.fault.Fault.{Fault}
use Rattle.mx_faults.specs.declared.fault.Fault.TheVariants as office
use Rattle.mx_faults.specs.declared.fault.OpenFault.{OpenFault}
use Rattle.mx_faults.specs.declared.fault.OpenFault.TheVariants as opening
use Rattle.mx_output.specs.declared.endings.ending.Stop.{Stop}
use Rattle.mx_output.specs.declared.endings.ending.Stop.TheVariants.{Words, Shape, Intake, MakeMemory, Create, Open, Move, Net, Office, Print}

-- what stopped a call of the office, in a word or two
abbrev pub office_words : Fault → List ℕ
office_words office.Memory = codes "memory"
office_words office.Store = codes "store"
office_words office.NeedsReopen = codes "reopen"
office_words (office.Damaged name) = codes "damaged " ++ table_name name

-- why a text gives no commands: the number of the fault, and the entry that has it
abbrev pub intake_words : IntakeFault → List ℕ
intake_words fault = decimal fault.number ++ (codes " entry " ++ decimal fault.entry)

-- a line of a fault
abbrev pub line_of : List ℕ → List ℕ
line_of words = codes "fault " ++ (words ++ 10 ∷ [])

-- why no book was made, in a word or two
abbrev pub create_words : TableFault → List ℕ
create_words table.Memory = codes "memory"
create_words table.Store = codes "store"
create_words table.NotOurs = codes "not-ours"
create_words table.Exists = codes "exists"
create_words (table.Damaged name) = codes "damaged " ++ table_name name

-- why no office was opened
abbrev pub open_words : OpenFault → List ℕ
open_words opening.Memory = codes "memory"
open_words opening.Store = codes "store"
open_words opening.NotOurs = codes "not-ours"
open_words (opening.NewerLayout layout) = codes "newer " ++ decimal layout
open_words (opening.Damaged name) = codes "damaged " ++ table_name name
open_words (opening.OlderLayout layout) = codes "older " ++ decimal layout

-- why a move stopped
abbrev pub move_words : MoveFault → List ℕ
move_words moving.Memory = codes "memory"
move_words moving.Store = codes "store"
move_words moving.NotOurs = codes "not-ours"
move_words (moving.NewerLayout layout) = codes "newer " ++ decimal layout
move_words (moving.Damaged name) = codes "damaged " ++ table_name name

-- why the program ends
abbrev pub stop_words : Stop → List ℕ
stop_words Words = codes "words"
stop_words Shape = codes "shape"
stop_words (Intake fault) = intake_words fault
stop_words MakeMemory = codes "memory"
stop_words Print = codes "memory"
stop_words (Create fault) = create_words fault
stop_words (Open fault) = open_words fault
stop_words (Move fault) = move_words fault
stop_words Net = codes "net"
stop_words (Office fault) = office_words fault

-- the line of a stop
abbrev pub fault_line : Stop → List ℕ
fault_line stop = line_of (stop_words stop)
