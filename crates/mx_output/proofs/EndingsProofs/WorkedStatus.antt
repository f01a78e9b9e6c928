-- Worked statuses, computed from the definitions.
use Rattle.std.proofs.Common.{refl, ◌≡◌, [], ◌∷◌, true, false}
use Rattle.std.specs.Prelude.{map, Ok, Err}
use Rattle.mx_layout.specs.declared.fault.TableFault.TheVariants as table
use Rattle.mx_layout.specs.declared.fault.Table.TheVariants as name
use Rattle.mx_faults.specs.declared.moving.MoveFault.TheVariants as moving
use Rattle.mx_faults.specs.declared.fault.Fault.TheVariants as office
use Rattle.mx_faults.specs.declared.fault.OpenFault.TheVariants as opening
use Rattle.mx_book.specs.declared.verdict.Refusal.TheVariants.{UnknownAircraft, Full}
use Rattle.mx_book.specs.declared.verdict.Reply.TheVariants.{Accepted, Already}
use Rattle.mx_book.specs.declared.verdict.Reply.TheVariants as reply
use Rattle.mx_output.specs.declared.endings.ending.Ending.TheVariants.{Done, Refused, Bad, Differs}
use Rattle.mx_output.specs.declared.endings.ending.Stop.TheVariants.{Words, Shape, Intake, MakeMemory, Create, Move, Open, Office, Print}
use Rattle.mx_reports.specs.Replies.{is_refusal}
use Rattle.mx_output.specs.endings.Status.{stop_status, ending_status, done_status, graver, run_ending}

-- words that the program does not take
bad_words : map stop_status (Words ∷ Shape ∷ []) ≡ 2 ∷ 2 ∷ []
bad_words = refl

-- an input file that gives no commands
bad_input : stop_status (Intake (record { number = 62; entry = 1 })) ≡ 3
bad_input = refl

-- nothing was opened or made
not_opened : map stop_status (MakeMemory ∷ Create table.Exists ∷ Create table.Memory ∷ Create table.Store ∷ Open opening.NotOurs ∷ Open opening.Store ∷ Open (opening.NewerLayout 9) ∷ [])
    ≡ 5 ∷ 5 ∷ 5 ∷ 5 ∷ 5 ∷ 5 ∷ 5 ∷ []
not_opened = refl

-- a call was stopped
stopped : map stop_status (Office office.Memory ∷ Office office.Store ∷ Office office.NeedsReopen ∷ Print ∷ []) ≡ 4 ∷ 4 ∷ 4 ∷ 4 ∷ []
stopped = refl

-- a move that was stopped: before the file was opened, and behind that
not_moved : map (λ fault. stop_status (Move fault)) (moving.NotOurs ∷ moving.NewerLayout 9 ∷ moving.Memory ∷ moving.Store ∷ moving.Damaged name.Crs ∷ []) ≡ 5 ∷ 5 ∷ 4 ∷ 4 ∷ 4 ∷ []
not_moved = refl

-- a refusal alone is one
refusals : map is_refusal (Accepted 1 ∷ Already 1 ∷ reply.Refused Full ∷ []) ≡ false ∷ false ∷ true ∷ []
refusals = refl

-- a run without a refusal, and one with a refusal among others
no_reply : run_ending [] ≡ Done
no_reply = refl

none_refused : run_ending (Accepted 1 ∷ Already 1 ∷ Accepted 2 ∷ []) ≡ Done
none_refused = refl

first_refused : run_ending (reply.Refused UnknownAircraft ∷ Accepted 1 ∷ []) ≡ Refused
first_refused = refl

one_refused : run_ending (Accepted 1 ∷ reply.Refused UnknownAircraft ∷ Accepted 2 ∷ []) ≡ Refused
one_refused = refl

last_refused : run_ending (Accepted 1 ∷ reply.Refused Full ∷ []) ≡ Refused
last_refused = refl

-- the statuses of endings, and the graver of two
endings : map ending_status (Done ∷ Refused ∷ Bad ∷ Differs ∷ []) ≡ 0 ∷ 1 ∷ 3 ∷ 4 ∷ []
endings = refl

refused_first : graver Refused Done ≡ Refused
refused_first = refl

refused_last : graver Done Refused ≡ Refused
refused_last = refl

bad_is_graver : map (graver Bad) (Done ∷ Refused ∷ Bad ∷ []) ≡ Bad ∷ Bad ∷ Bad ∷ []
bad_is_graver = refl

bad_behind_a_refusal : graver Refused Bad ≡ Bad
bad_behind_a_refusal = refl

differing_is_gravest : map (λ other. graver other Differs) (Done ∷ Refused ∷ Bad ∷ Differs ∷ []) ≡ Differs ∷ Differs ∷ Differs ∷ Differs ∷ []
differing_is_gravest = refl

none_is_graver : map (graver Differs) (Done ∷ Refused ∷ Bad ∷ Differs ∷ []) ≡ Differs ∷ Differs ∷ Differs ∷ Differs ∷ []
none_is_graver = refl

none_is_refused : graver Done Done ≡ Done
none_is_refused = refl

-- a word that came to its end, and words that were stopped before and behind an office
ends_of_words : map done_status (Ok Done ∷ Ok Refused ∷ Ok Bad ∷ Err Shape ∷ Err (Office office.Store) ∷ Err MakeMemory ∷ []) ≡ 0 ∷ 1 ∷ 3 ∷ 2 ∷ 4 ∷ 5 ∷ []
ends_of_words = refl
