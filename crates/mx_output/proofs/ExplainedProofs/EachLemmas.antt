-- Each refusal has an explanation, and each word that stands behind `fault`, whatever stopped the program.
use Rattle.std.proofs.Common.{refl, ◌≡◌, true}
use Rattle.std.specs.Fmt.{decimal, digits}
use Rattle.std.specs.List.{list_all}
use Rattle.mx_book.specs.Judge.{refusal_number}
use Rattle.mx_book.specs.declared.verdict.Refusal.{Refusal}
use Rattle.mx_book.specs.declared.verdict.Refusal.TheVariants.{Conflict, Full, UnknownAircraft, UnknownComponent, UnknownPosition, UnknownProgramme, UnknownTask, UnknownDefect, AircraftExists, ComponentExists, PositionTaken, AlreadyFitted, NotFitted, WrongPart, ItemElsewhere, TaskClosed, LifeLimit, DefectClosed, OutOfOrder, NotExtendable, AlreadyExtended, ExtensionTooLong, IntervalEnded, WrongRevision, OtherAircraft, OpeningTooLate, OpeningTooLarge, RepeatedLine}
use Rattle.mx_layout.specs.declared.fault.TableFault.{TableFault}
use Rattle.mx_layout.specs.declared.fault.TableFault.TheVariants as table
use Rattle.mx_faults.specs.declared.fault.Fault.{Fault}
use Rattle.mx_faults.specs.declared.fault.Fault.TheVariants as office
use Rattle.mx_faults.specs.declared.fault.OpenFault.{OpenFault}
use Rattle.mx_faults.specs.declared.fault.OpenFault.TheVariants as opening
use Rattle.mx_faults.specs.declared.moving.MoveFault.{MoveFault}
use Rattle.mx_faults.specs.declared.moving.MoveFault.TheVariants as moving
use Rattle.mx_output.specs.declared.endings.ending.Stop.TheVariants.{Words, Shape, MakeMemory, Net, Print}
use Rattle.mx_output.specs.endings.FaultLine.{create_words, move_words, office_words, open_words, stop_words}
use Rattle.mx_output.specs.explained.Explained.{each_input_fault, first_word, is_explained}
use Rattle.std.specs.Prelude.{[], ◌∷◌}

refusal_explained : (refusal : Refusal) → is_explained (decimal (refusal_number refusal)) ≡ true
unfolding digits
refusal_explained (Conflict seq) = refl
refusal_explained Full = refl
refusal_explained UnknownAircraft = refl
refusal_explained UnknownComponent = refl
refusal_explained UnknownPosition = refl
refusal_explained UnknownProgramme = refl
refusal_explained UnknownTask = refl
refusal_explained UnknownDefect = refl
refusal_explained AircraftExists = refl
refusal_explained ComponentExists = refl
refusal_explained PositionTaken = refl
refusal_explained AlreadyFitted = refl
refusal_explained NotFitted = refl
refusal_explained WrongPart = refl
refusal_explained ItemElsewhere = refl
refusal_explained TaskClosed = refl
refusal_explained LifeLimit = refl
refusal_explained DefectClosed = refl
refusal_explained (OutOfOrder clock) = refl
refusal_explained NotExtendable = refl
refusal_explained AlreadyExtended = refl
refusal_explained (ExtensionTooLong most) = refl
refusal_explained (IntervalEnded last) = refl
refusal_explained (WrongRevision expected) = refl
refusal_explained OtherAircraft = refl
refusal_explained OpeningTooLate = refl
refusal_explained OpeningTooLarge = refl
refusal_explained RepeatedLine = refl

input_faults_explained : list_all (λ number. is_explained (decimal number)) each_input_fault ≡ true
unfolding digits
input_faults_explained = refl

create_explained : (fault : TableFault) → is_explained (first_word (create_words fault)) ≡ true
unfolding digits
create_explained table.Memory = refl
create_explained table.Store = refl
create_explained table.NotOurs = refl
create_explained table.Exists = refl
create_explained (table.Damaged name) = refl

open_explained : (fault : OpenFault) → is_explained (first_word (open_words fault)) ≡ true
unfolding digits
open_explained opening.Memory = refl
open_explained opening.Store = refl
open_explained opening.NotOurs = refl
open_explained (opening.NewerLayout layout) = refl
open_explained (opening.Damaged name) = refl
open_explained (opening.OlderLayout layout) = refl

move_explained : (fault : MoveFault) → is_explained (first_word (move_words fault)) ≡ true
unfolding digits
move_explained moving.Memory = refl
move_explained moving.Store = refl
move_explained moving.NotOurs = refl
move_explained (moving.NewerLayout layout) = refl
move_explained (moving.Damaged name) = refl

office_explained : (fault : Fault) → is_explained (first_word (office_words fault)) ≡ true
unfolding digits
office_explained office.Memory = refl
office_explained office.Store = refl
office_explained office.NeedsReopen = refl
office_explained (office.Damaged name) = refl

others_explained : list_all (λ stop. is_explained (first_word (stop_words stop))) (Words ∷ Shape ∷ MakeMemory ∷ Net ∷ Print ∷ []) ≡ true
unfolding digits
others_explained = refl
