-- How a word ends, and the status that the program ends with.
use Rattle.std.specs.Prelude.{◌≡◌, ℕ, List, ◌++◌, Result, Ok, Err, if◌then◌else◌}
use Rattle.std.specs.List.{list_any}
use Rattle.mx_book.specs.declared.verdict.Reply.{Reply}
use Rattle.mx_reports.specs.Replies.{is_refusal}
use Rattle.mx_faults.specs.declared.moving.MoveFault.{MoveFault}
use Rattle.mx_faults.specs.declared.moving.MoveFault.TheVariants as moving
use Rattle.mx_output.specs.declared.endings.ending.Ending.{Ending}
use Rattle.mx_output.specs.declared.endings.ending.Ending.TheVariants.{Done, Refused, Bad, Differs}
use Rattle.mx_output.specs.declared.endings.ending.Stop.{Stop}
use Rattle.mx_output.specs.declared.endings.ending.Stop.TheVariants.{Words, Shape, Intake, MakeMemory, Create, Open, Move, Net, Office, Print}

-- the status of a move that was stopped: 5 where the file is not one of an office, or is of a newer layout, 4 otherwise
abbrev pub move_status : MoveFault → ℕ
move_status moving.NotOurs = 5
move_status (moving.NewerLayout layout) = 5
move_status moving.Memory = 4
move_status moving.Store = 4
move_status (moving.Damaged name) = 4

-- the status of a stop: 2 for the words, 3 for the input file, 5 where no office was opened or made or the port was not bound, 4 after it was opened
abbrev pub stop_status : Stop → ℕ
stop_status Words = 2
stop_status Shape = 2
stop_status (Intake fault) = 3
stop_status MakeMemory = 5
stop_status (Create fault) = 5
stop_status (Open fault) = 5
stop_status (Move fault) = move_status fault
stop_status Net = 5
stop_status (Office fault) = 4
stop_status Print = 4

-- the status of an ending: 0 where all was done, 1 where something was refused, 3 where a row of a sector log was bad, 4 where the tables of a file are those of no book
abbrev pub ending_status : Ending → ℕ
ending_status Done = 0
ending_status Refused = 1
ending_status Bad = 3
ending_status Differs = 4

-- the status of a word
abbrev pub done_status : Result Ending Stop → ℕ
done_status (Ok ending) = ending_status ending
done_status (Err stop) = stop_status stop

-- the graver of two endings
abbrev pub graver : Ending → Ending → Ending
graver Done other = other
graver Refused Done = Refused
graver Refused Refused = Refused
graver Refused Bad = Bad
graver Refused Differs = Differs
graver Bad Done = Bad
graver Bad Refused = Bad
graver Bad Bad = Bad
graver Bad Differs = Differs
graver Differs other = Differs

-- how a run with these replies ended
abbrev pub run_ending : List Reply → Ending
run_ending replies = if list_any is_refusal replies then Refused else Done

-- a text was appended that is right for how it ended
abbrev pub Shows : (List ℕ → Ending → Type 0) → List ℕ → List ℕ → Ending → Type 0
Shows is_right old new ending = (text : List ℕ) × (new ≡ old ++ text) × is_right text ending

-- where the input file gave nothing, nothing was appended
abbrev pub LeavesUnread : List ℕ → List ℕ → Stop → Type 0
LeavesUnread old new stop = stop_status stop ≡ 3 → new ≡ old
