-- What a command that is new passes: each refusal, by its name.
-- What follows of a new command cites a field of `Passes`: places in the list of refusals stand in one lemma here and
-- nowhere else, so that a further refusal moves nothing.
use Rattle.std.proofs.Common.{rules, arith, refl, subst, ◌≡◌, ℕ, ◌+◌, ◌≤◌, length, List, ◌∷◌, Bool, true, false, cond, ◌||◌, Option, Some, None}
use Rattle.std.proofs.lemmas.Bool.Decides.{nat_tests}
use Rattle.std.specs.Prelude.{nat_le, is_some}
use Rattle.std.specs.Option.{option_map}
use Rattle.mx_book.specs.commands.Act.{Act, Entry, Added, Listed, Fitted}
use Rattle.mx_book.specs.commands.Same.{same_entry}
use Rattle.mx_book.specs.declared.commands.fitting.Fitting.{Fitting}
use Rattle.mx_book.specs.declared.verdict.Refusal.{Refusal}
use Rattle.mx_book.specs.declared.verdict.Refusal.TheVariants as reasons
use Rattle.mx_book.specs.declared.verdict.Verdict.TheVariants.{New, Already, Refused}
use Rattle.mx_book.specs.Judge as tests
use Rattle.mx_book.specs.Judge.{judge, judge_by, known_from, refusals, first_of, when, is_full, verdict_of}
use Rattle.mx_book.specs.Span.{fitted, is_taken}

-- no refusal applies to what a command says; each field is named for the refusal that does not
pub record Passes (book : List Entry) (act : Act) : Type 0 where
  pub full : tests.is_full book act ≡ false
  pub unknown_aircraft : tests.names_unknown_aircraft book act ≡ false
  pub unknown_component : tests.names_unknown_component book act ≡ false
  pub unknown_position : tests.names_unknown_position book act ≡ false
  pub unknown_programme : tests.names_unknown_programme book act ≡ false
  pub unknown_task : tests.names_unknown_task book act ≡ false
  pub unknown_defect : tests.names_unknown_defect book act ≡ false
  pub aircraft_exists : tests.aircraft_exists book act ≡ false
  pub component_exists : tests.component_exists book act ≡ false
  pub position_taken : tests.position_taken book act ≡ false
  pub already_fitted : tests.already_fitted book act ≡ false
  pub not_fitted : tests.not_fitted book act ≡ false
  pub wrong_part : tests.wrong_part book act ≡ false
  pub item_elsewhere : tests.item_elsewhere book act ≡ false
  pub task_closed : tests.task_closed book act ≡ false
  pub life_limit : tests.at_life_limit book act ≡ false
  pub defect_closed : tests.defect_closed book act ≡ false
  pub out_of_order : tests.too_early book act ≡ None
  pub not_extendable : tests.not_extendable book act ≡ false
  pub already_extended : tests.already_extended book act ≡ false
  pub extension_too_long : tests.extension_too_long book act ≡ None
  pub interval_ended : tests.interval_ended book act ≡ None
  pub wrong_revision : tests.wrong_revision book act ≡ None
  pub other_aircraft : tests.other_aircraft book act ≡ false
  pub opening_too_late : tests.opening_too_late book act ≡ false
  pub opening_too_large : tests.opening_too_large book act ≡ false
  pub repeated_line : tests.repeats_line book act ≡ false

-- where none of some refusals applies, the first does not, nor does one of the others
none_first : (test : Bool) (why : Refusal) (others : List (Option Refusal)) → first_of (when test why ∷ others) ≡ None → (test ≡ false) × (first_of others ≡ None)
none_first true why others h = (cc)
none_first false why others h = (refl, h)

-- the same of a refusal that carries a number
none_told : (told : Option ℕ) (why : ℕ → Refusal) (others : List (Option Refusal)) → first_of (option_map why told ∷ others) ≡ None → (told ≡ None) × (first_of others ≡ None)
none_told None why others h = (refl, h)
none_told (Some n) why others h = (cc)

passes_by : (book : List Entry) (act : Act) → first_of (refusals book act) ≡ None → Passes book act
passes_by book act h =
    let full = none_first (tests.is_full book act) reasons.Full _ h in
    let unknown_aircraft = none_first (tests.names_unknown_aircraft book act) reasons.UnknownAircraft _ full.1 in
    let unknown_component = none_first (tests.names_unknown_component book act) reasons.UnknownComponent _ unknown_aircraft.1 in
    let unknown_position = none_first (tests.names_unknown_position book act) reasons.UnknownPosition _ unknown_component.1 in
    let unknown_programme = none_first (tests.names_unknown_programme book act) reasons.UnknownProgramme _ unknown_position.1 in
    let unknown_task = none_first (tests.names_unknown_task book act) reasons.UnknownTask _ unknown_programme.1 in
    let unknown_defect = none_first (tests.names_unknown_defect book act) reasons.UnknownDefect _ unknown_task.1 in
    let aircraft_exists = none_first (tests.aircraft_exists book act) reasons.AircraftExists _ unknown_defect.1 in
    let component_exists = none_first (tests.component_exists book act) reasons.ComponentExists _ aircraft_exists.1 in
    let position_taken = none_first (tests.position_taken book act) reasons.PositionTaken _ component_exists.1 in
    let already_fitted = none_first (tests.already_fitted book act) reasons.AlreadyFitted _ position_taken.1 in
    let not_fitted = none_first (tests.not_fitted book act) reasons.NotFitted _ already_fitted.1 in
    let wrong_part = none_first (tests.wrong_part book act) reasons.WrongPart _ not_fitted.1 in
    let item_elsewhere = none_first (tests.item_elsewhere book act) reasons.ItemElsewhere _ wrong_part.1 in
    let task_closed = none_first (tests.task_closed book act) reasons.TaskClosed _ item_elsewhere.1 in
    let life_limit = none_first (tests.at_life_limit book act) reasons.LifeLimit _ task_closed.1 in
    let defect_closed = none_first (tests.defect_closed book act) reasons.DefectClosed _ life_limit.1 in
    let out_of_order = none_told (tests.too_early book act) reasons.OutOfOrder _ defect_closed.1 in
    let not_extendable = none_first (tests.not_extendable book act) reasons.NotExtendable _ out_of_order.1 in
    let already_extended = none_first (tests.already_extended book act) reasons.AlreadyExtended _ not_extendable.1 in
    let extension_too_long = none_told (tests.extension_too_long book act) reasons.ExtensionTooLong _ already_extended.1 in
    let interval_ended = none_told (tests.interval_ended book act) reasons.IntervalEnded _ extension_too_long.1 in
    let wrong_revision = none_told (tests.wrong_revision book act) reasons.WrongRevision _ interval_ended.1 in
    let other_aircraft = none_first (tests.other_aircraft book act) reasons.OtherAircraft _ wrong_revision.1 in
    let opening_too_late = none_first (tests.opening_too_late book act) reasons.OpeningTooLate _ other_aircraft.1 in
    let opening_too_large = none_first (tests.opening_too_large book act) reasons.OpeningTooLarge _ opening_too_late.1 in
    let repeated_line = none_first (tests.repeats_line book act) reasons.RepeatedLine _ opening_too_large.1 in
    search rules

-- ── of a command that is new ──

unrefused : (r : Option Refusal) → verdict_of r ≡ New → r ≡ None
unrefused None h = refl
unrefused (Some refusal) h = (cc)

known_old : (b : Bool) (seq : ℕ) (r : Option Refusal) → cond b (Already seq) (Refused (reasons.Conflict seq)) ≡ New → r ≡ None
known_old true seq r h = (cc)
known_old false seq r h = (cc)

new_by : (book : List Entry) (command : Entry) (o : Option (ℕ × Entry)) → judge_by book command o ≡ New → first_of (refusals book command.act) ≡ None
new_by book command (Some known) h = known_old (same_entry known.1 command) known.0 _ h
new_by book command None h = unrefused (first_of (refusals book command.act)) h

-- a command that is new passes each refusal
pub new-passes : (book : List Entry) (command : Entry) → judge book command ≡ New → Passes book command.act
new-passes book command h = passes_by book command.act (new_by book command (known_from command.doc 1 book) h)

-- so does what is said by it
pub new-passes_as : (book : List Entry) (command : Entry) (act : Act) → judge book command ≡ New → command.act ≡ act → Passes book act
new-passes_as book command act new says = subst (Passes book) says (new-passes book command new)

-- a fitting that is new finds the position free, and the component fitted nowhere
pub new-fitting : (book : List Entry) (command : Entry) (f : Fitting) → judge book command ≡ New → command.act ≡ Fitted f → (is_taken book f.tail f.position ≡ false) × (is_some (fitted book f.serial) ≡ false)
new-fitting book command f new says =
    let passes = new-passes_as book command (Fitted f) new says in
    (passes.position_taken, passes.already_fitted)

neither : (p q : Bool) → p || q ≡ false → p ≡ false
neither true q h = h
neither false q h = refl

few_entries : (book : List Entry) (act : Act) → is_full book act ≡ false → nat_le 1000000 (length book) ≡ false
few_entries book (Added a positions) h = neither _ _ h
few_entries book (Listed c) h = neither _ _ h
few_entries book _ h = h

room_for : (n : ℕ) → nat_le 1000000 n ≡ false → n + 1 ≤ 1000000
room_for n h = grind (arith, nat_tests)

-- there is room for a command that is new
pub new-room : (book : List Entry) (command : Entry) → judge book command ≡ New → length book + 1 ≤ 1000000
new-room book command h = room_for (length book) (few_entries book command.act (new-passes book command h).full)
