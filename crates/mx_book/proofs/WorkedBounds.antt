-- Worked examples: the ends of spans, clocks, limits and pages, and which refusal comes first.
use Rattle.std.proofs.Common.{refl, ap, ◌∙◌, ◌≡◌, ℕ, List, [], ◌∷◌, ◌++◌, length, true, false, Some, None}
use Rattle.std.specs.Prelude.{codes, nat_le, nat_lt, not, ◌||◌, map}
use Rattle.mx_book.specs.commands.Act.{Entry, Added, Listed, Flown, aircraft_of, component_of}
use Rattle.mx_book.specs.declared.commands.aircraft.Aircraft.{Aircraft}
use Rattle.mx_book.specs.declared.commands.component.Component.{Component as Listing}
use Rattle.mx_book.specs.declared.commands.sector.Sector.{Sector}
use Rattle.mx_book.specs.declared.commands.item.Item.TheVariants.{Airframe, Component}
use Rattle.mx_book.specs.declared.verdict.Refusal.TheVariants.{Conflict, Full, UnknownAircraft, UnknownComponent, UnknownPosition, UnknownProgramme, UnknownTask, UnknownDefect, AircraftExists, ComponentExists, PositionTaken, AlreadyFitted, NotFitted, WrongPart, ItemElsewhere, TaskClosed, LifeLimit, DefectClosed, OutOfOrder, NotExtendable, AlreadyExtended, ExtensionTooLong, IntervalEnded, WrongRevision, OtherAircraft, OpeningTooLate, OpeningTooLarge, RepeatedLine}
use Rattle.mx_book.specs.declared.verdict.Verdict.TheVariants.{New, Refused}
use Rattle.mx_book.specs.Register.{register}
use Rattle.mx_book.specs.Span.{tail_fitted}
use Rattle.mx_book.specs.Life.{life_now, clock}
use Rattle.mx_book.specs.Judge.{judge, is_full, refusal_number}
use Rattle.mx_book.specs.Book.{entry_at, entries_from}
use Rattle.mx_book.proofs.Worked.{at, used, abcd, a1, logged, first_sector, first_two}
use Rattle.mx_book.proofs.WorkedFittings.{engine, propeller, e1, e2, engine_with, fit, remove, first_aircraft, replaced, without_engine, on_another, two_parts}
use Rattle.mx_book.specs.declared.limits.TheConstants.{MOST_ENTRIES, MOST_AIRCRAFT, MOST_COMPONENTS}

-- ── the ends of a span ──

-- E1 is fitted at this moment, flies the first sector, from 08:00 to 09:30, and is removed at this moment
abbrev flown_between : ℕ → ℕ → List Entry
flown_between from to = first_aircraft ∷ logged (codes "C1") (engine_with e1) ∷ logged (codes "F1") (fit e1 abcd engine from) ∷ first_sector 1 ∷ logged (codes "R1") (remove e1 to) ∷ []

within_span : life_now (flown_between (at 19783 8 0) (at 19783 9 30)) (Component e1) ≡ Some (used 1090 101)
within_span = refl

taken_off_before : life_now (flown_between (at 19783 8 1) (at 19783 9 30)) (Component e1) ≡ Some (used 1000 100)
taken_off_before = refl

landed_behind : life_now (flown_between (at 19783 8 0) (at 19783 9 29)) (Component e1) ≡ Some (used 1000 100)
landed_behind = refl

-- a second removal ends the second span, and not the first: what was flown in between counts for neither
removed_twice : life_now (on_another ++ logged (codes "R3") (remove e1 (at 19790 0 0)) ∷ []) (Component e1) ≡ Some (used 1210 103)
removed_twice = refl

-- a removal of another component ends no span
removal_of_another : tail_fitted (two_parts ++ logged (codes "R4") (remove (codes "P1") (at 19783 9 30)) ∷ []) e1 ≡ Some abcd
removal_of_another = refl

-- E1 is fitted to D-EFGH while D-ABCD flies
sector_of_another : life_now (on_another ++ logged (codes "TL/D-ABCD/12/3") (Flown (record { tail = abcd; page = 12; line = 3; off = at 19788 8 0; on = at 19788 9 0; cycles = 1 })) ∷ []) (Component e1) ≡ Some (used 1210 103)
sector_of_another = refl

-- a position of this name is taken on another aircraft alone
taken_on_another : judge on_another (logged (codes "F5") (fit e2 abcd engine (at 19787 12 0))) ≡ New
taken_on_another = refl

-- ── clocks ──

abbrev just_fitted : List Entry
just_fitted = first_aircraft ∷ logged (codes "C1") (engine_with e1) ∷ logged (codes "F1") (fit e1 abcd engine (at 19754 0 0)) ∷ []

-- a fitting raises the clocks of the aircraft and of the component
clock_from_fitting : clock just_fitted (Airframe abcd) ≡ at 19754 0 0
clock_from_fitting = refl

clock_of_fitted : clock just_fitted (Component e1) ≡ at 19754 0 0
clock_of_fitted = refl

-- a component's clock begins at its as_of
first_clock_of_component : clock (logged (codes "C1") (engine_with e1) ∷ []) (Component e1) ≡ at 19723 0 0
first_clock_of_component = refl

-- a landing raises the clock of the aircraft alone, and no other aircraft's
clock_of_component_in_flight : clock (just_fitted ++ first_sector 1 ∷ []) (Component e1) ≡ at 19754 0 0
clock_of_component_in_flight = refl

clock_of_another : clock on_another (Airframe abcd) ≡ at 19784 9 0
clock_of_another = refl

-- ── of two refusals the one with the lesser number ──

aircraft_before_component : judge replaced (logged (codes "X1") (fit (codes "E9") (codes "D-NONE") engine (at 19783 9 30))) ≡ Refused UnknownAircraft
aircraft_before_component = refl

component_before_position : judge replaced (logged (codes "X1") (fit (codes "E9") abcd (codes "ENG2") (at 19783 9 30))) ≡ Refused UnknownComponent
component_before_position = refl

position_before_fitted : judge replaced (logged (codes "X1") (fit e2 abcd (codes "ENG2") (at 19783 9 30))) ≡ Refused UnknownPosition
position_before_fitted = refl

taken_before_fitted : judge replaced (logged (codes "X1") (fit e2 abcd engine (at 19783 9 30))) ≡ Refused PositionTaken
taken_before_fitted = refl

part_before_clock : judge replaced (logged (codes "X1") (fit e1 abcd propeller 0)) ≡ Refused WrongPart
part_before_clock = refl

nowhere_before_clock : judge without_engine (logged (codes "X1") (remove e2 0)) ≡ Refused NotFitted
nowhere_before_clock = refl

-- and a document that is known before any of them
known_before_refusals : judge replaced (logged (codes "F2") (fit (codes "E9") (codes "D-NONE") engine 0)) ≡ Refused (Conflict 7)
known_before_refusals = refl

refusals_numbered
    : map refusal_number (Conflict 7 ∷ Full ∷ UnknownAircraft ∷ UnknownComponent ∷ UnknownPosition ∷ UnknownProgramme ∷ UnknownTask ∷ UnknownDefect ∷ AircraftExists ∷ ComponentExists
    ∷ PositionTaken ∷ AlreadyFitted ∷ NotFitted ∷ WrongPart ∷ ItemElsewhere ∷ TaskClosed ∷ LifeLimit ∷ DefectClosed ∷ OutOfOrder 7 ∷ NotExtendable ∷ AlreadyExtended ∷ ExtensionTooLong 7 ∷ IntervalEnded 7
    ∷ WrongRevision 7 ∷ OtherAircraft ∷ OpeningTooLate ∷ OpeningTooLarge ∷ RepeatedLine ∷ [])
    ≡ 10 ∷ 11 ∷ 20 ∷ 21 ∷ 22 ∷ 23 ∷ 24 ∷ 25 ∷ 30 ∷ 31 ∷ 33 ∷ 34 ∷ 35 ∷ 36 ∷ 37 ∷ 38 ∷ 39 ∷ 40 ∷ 41 ∷ 42 ∷ 43 ∷ 44 ∷ 45 ∷ 46 ∷ 47 ∷ 48 ∷ 49 ∷ 52 ∷ []
refusals_numbered = refl

-- ── when a book is full ──

last_entry : (book : List Entry) (s : Sector) → length book ≡ 999999 → is_full book (Flown s) ≡ false
last_entry book s h = ap (nat_le 1000000) h

full_of_entries : (book : List Entry) (s : Sector) → length book ≡ 1000000 → is_full book (Flown s) ≡ true
full_of_entries book s h = ap (nat_le 1000000) h

last_aircraft : (book : List Entry) (a : Aircraft) → length book ≡ 100 → length (register aircraft_of book) ≡ 49 → is_full book (Added a []) ≡ false
last_aircraft book a h g = ap (λ n. nat_le 1000000 n || not (nat_lt (length (register aircraft_of book)) 50)) h ∙ ap (λ n. not (nat_lt n 50)) g

full_of_aircraft : (book : List Entry) (a : Aircraft) → length book ≡ 100 → length (register aircraft_of book) ≡ 50 → is_full book (Added a []) ≡ true
full_of_aircraft book a h g = ap (λ n. nat_le 1000000 n || not (nat_lt (length (register aircraft_of book)) 50)) h ∙ ap (λ n. not (nat_lt n 50)) g

last_component : (book : List Entry) (c : Listing) → length book ≡ 9000 → length (register component_of book) ≡ 4999 → is_full book (Listed c) ≡ false
last_component book c h g = ap (λ n. nat_le 1000000 n || not (nat_lt (length (register component_of book)) 5000)) h ∙ ap (λ n. not (nat_lt n 5000)) g

full_of_components : (book : List Entry) (c : Listing) → length book ≡ 9000 → length (register component_of book) ≡ 5000 → is_full book (Listed c) ≡ true
full_of_components book c h g = ap (λ n. nat_le 1000000 n || not (nat_lt (length (register component_of book)) 5000)) h ∙ ap (λ n. not (nat_lt n 5000)) g

-- ── entries and pages ──

no_entry_zero : entry_at first_two 0 ≡ None
no_entry_zero = refl

second_entry : entry_at first_two 2 ≡ Some (first_sector 1)
second_entry = refl

page_from_zero : entries_from 0 1 first_two ≡ a1 ∷ []
page_from_zero = refl

page_from_one : entries_from 1 1 first_two ≡ a1 ∷ []
page_from_one = refl

page_from_two : entries_from 2 5 first_two ≡ first_sector 1 ∷ []
page_from_two = refl

page_past_the_last : entries_from 3 5 first_two ≡ []
page_past_the_last = refl

-- ── the bounds, as numbers ──

-- entries, aircraft and components
most_of_a_book : MOST_ENTRIES ∷ MOST_AIRCRAFT ∷ MOST_COMPONENTS ∷ [] ≡ 1000000 ∷ 50 ∷ 5000 ∷ []
most_of_a_book = refl
