-- Worked examples of components: fitted, flown, removed, and fitted to another aircraft.
use Rattle.std.proofs.Common.{refl, ◌≡◌, ℕ, List, [], ◌∷◌, ◌++◌, true, Some, None}
use Rattle.std.specs.Prelude.{codes}
use Rattle.std.specs.Fmt.{digits}
use Rattle.mx_book.specs.commands.Act.{Act, Entry, Added, Listed, Flown, Fitted, Removed}
use Rattle.mx_book.specs.commands.Shape.{has_shape}
use Rattle.std.specs.List.{list_all}
use Rattle.mx_book.specs.declared.commands.item.Item.TheVariants.{Airframe, Component}
use Rattle.mx_book.specs.declared.verdict.Refusal.TheVariants.{UnknownAircraft, UnknownComponent, UnknownPosition, ComponentExists, PositionTaken, AlreadyFitted, NotFitted, WrongPart, OutOfOrder}
use Rattle.mx_book.specs.declared.verdict.Verdict.TheVariants.{New, Refused}
use Rattle.mx_book.specs.declared.verdict.Reply.TheVariants.{Accepted}
use Rattle.mx_book.specs.Span.{fitted, tail_fitted}
use Rattle.mx_book.specs.Life.{life_at, life_now, clock}
use Rattle.mx_book.specs.Judge.{judge}
use Rattle.mx_book.specs.Book.{is_book}
use Rattle.mx_book.specs.Run.{replies}
use Rattle.mx_book.proofs.Worked.{at, used, abcd, logged, first_sector}

abbrev pub efgh : List ℕ
efgh = codes "D-EFGH"

abbrev pub engine : List ℕ
engine = codes "ENG"

abbrev pub propeller : List ℕ
propeller = codes "PROP"

abbrev pub e1 : List ℕ
e1 = codes "E1"

abbrev pub e2 : List ℕ
e2 = codes "E2"

-- D-ABCD takes an engine IO360 and a propeller HC2, D-EFGH, built on 2023-06-01, the engine alone
abbrev pub first_aircraft : Entry
first_aircraft = logged (codes "A1") (Added (record { tail = abcd; kind = codes "C172"; birth = 10957; opening = used 60000 800; as_of = at 19723 0 0 }) ((engine, codes "IO360") ∷ (propeller, codes "HC2") ∷ []))

abbrev pub second_aircraft : Entry
second_aircraft = logged (codes "A2") (Added (record { tail = efgh; kind = codes "C172"; birth = 19509; opening = used 0 0; as_of = at 19723 0 0 }) ((engine, codes "IO360") ∷ []))

-- an engine, built on 2010-01-01, with 1,000 minutes and 100 cycles on 2024-01-01
abbrev pub engine_with : List ℕ → Act
engine_with serial = Listed (record { serial = serial; part = codes "IO360"; birth = 14610; opening = used 1000 100; as_of = at 19723 0 0 })

abbrev pub fit : List ℕ → List ℕ → List ℕ → ℕ → Act
fit serial tail position moment = Fitted (record { serial = serial; tail = tail; position = position; moment = moment })

abbrev pub remove : List ℕ → ℕ → Act
remove serial moment = Removed (record { serial = serial; moment = moment })

-- E1 flies with D-ABCD from 2024-02-01 on, and the first sector
abbrev pub fitted_once : List Entry
fitted_once = first_aircraft ∷ logged (codes "C1") (engine_with e1) ∷ logged (codes "C2") (engine_with e2)
    ∷ logged (codes "F1") (fit e1 abcd engine (at 19754 0 0)) ∷ first_sector 1 ∷ []

-- at its landing E1 is removed, and E2 fitted
abbrev pub replaced : List Entry
replaced = fitted_once ++ logged (codes "R1") (remove e1 (at 19783 9 30)) ∷ logged (codes "F2") (fit e2 abcd engine (at 19783 9 30)) ∷ []

-- E2 is removed at the same moment, and D-ABCD flies on without an engine of record: 2024-03-02T08:00 to 09:00
abbrev pub without_engine : List Entry
without_engine = replaced ++ logged (codes "R2") (remove e2 (at 19783 9 30))
    ∷ logged (codes "TL/D-ABCD/12/2") (Flown (record { tail = abcd; page = 12; line = 2; off = at 19784 8 0; on = at 19784 9 0; cycles = 1 })) ∷ []

-- E1 is fitted to D-EFGH at 2024-03-05T00:00, which flies that day from 10:00 to 12:00
abbrev pub second_sector : Entry
second_sector = logged (codes "TL/D-EFGH/1/1") (Flown (record { tail = efgh; page = 1; line = 1; off = at 19787 10 0; on = at 19787 12 0; cycles = 2 }))

abbrev pub on_another : List Entry
on_another = without_engine ++ second_aircraft ∷ logged (codes "F3") (fit e1 efgh engine (at 19787 0 0)) ∷ second_sector ∷ []

-- each command has its shape, and is accepted
shapes : list_all has_shape on_another ≡ true
unfolding digits
shapes = refl

accepted : is_book on_another ≡ true
accepted = refl

first_replies : replies [] fitted_once ≡ Accepted 1 ∷ Accepted 2 ∷ Accepted 3 ∷ Accepted 4 ∷ Accepted 5 ∷ []
first_replies = refl

-- ── lives ──

-- E1 has the sector that it flew, from its landing on, and E2 none
life_of_e1 : life_now replaced (Component e1) ≡ Some (used 1090 101)
life_of_e1 = refl

life_of_e1_in_flight : life_at replaced (Component e1) (at 19783 9 29) ≡ Some (used 1000 100)
life_of_e1_in_flight = refl

life_of_e2 : life_now replaced (Component e2) ≡ Some (used 1000 100)
life_of_e2 = refl

-- a sector flown after the removal counts for neither
life_of_e1_removed : life_now without_engine (Component e1) ≡ Some (used 1090 101)
life_of_e1_removed = refl

life_of_e2_removed : life_now without_engine (Component e2) ≡ Some (used 1000 100)
life_of_e2_removed = refl

-- E1 takes its life with it to another aircraft
life_of_e1_elsewhere : life_now on_another (Component e1) ≡ Some (used 1210 103)
life_of_e1_elsewhere = refl

life_of_efgh : life_now on_another (Airframe efgh) ≡ Some (used 120 2)
life_of_efgh = refl

life_of_abcd : life_now on_another (Airframe abcd) ≡ Some (used 60150 802)
life_of_abcd = refl

-- ── where components are fitted ──

fitted_first : tail_fitted fitted_once e1 ≡ Some abcd
fitted_first = refl

fitted_nowhere : fitted replaced e1 ≡ None
fitted_nowhere = refl

fitted_elsewhere : tail_fitted on_another e1 ≡ Some efgh
fitted_elsewhere = refl

-- ── refusals ──

position_taken : judge replaced (logged (codes "X1") (fit e1 abcd engine (at 19783 9 30))) ≡ Refused PositionTaken
position_taken = refl

-- the component is fitted already, and of another part than the position takes: the lesser number is given
already_fitted : judge replaced (logged (codes "X1") (fit e2 abcd propeller (at 19783 9 30))) ≡ Refused AlreadyFitted
already_fitted = refl

not_fitted : judge without_engine (logged (codes "X1") (remove e2 (at 19784 9 0))) ≡ Refused NotFitted
not_fitted = refl

wrong_part : judge replaced (logged (codes "X1") (fit e1 abcd propeller (at 19783 9 30))) ≡ Refused WrongPart
wrong_part = refl

unknown_position : judge replaced (logged (codes "X1") (fit e1 abcd (codes "ENG2") (at 19783 9 30))) ≡ Refused UnknownPosition
unknown_position = refl

-- a position of another aircraft is none of this one
position_of_another : judge on_another (logged (codes "X1") (fit e2 efgh propeller (at 19787 12 0))) ≡ Refused UnknownPosition
position_of_another = refl

unknown_component : judge replaced (logged (codes "X1") (fit (codes "E9") abcd propeller (at 19783 9 30))) ≡ Refused UnknownComponent
unknown_component = refl

unknown_removed : judge replaced (logged (codes "X1") (remove (codes "E9") (at 19783 9 30))) ≡ Refused UnknownComponent
unknown_removed = refl

unknown_aircraft : judge replaced (logged (codes "X1") (fit e1 (codes "D-NONE") engine (at 19783 9 30))) ≡ Refused UnknownAircraft
unknown_aircraft = refl

component_exists : judge replaced (logged (codes "X1") (engine_with e1)) ≡ Refused ComponentExists
component_exists = refl

-- ── clocks ──

-- a removal raises the clocks of the component and of the aircraft that it was fitted to
clock_of_removed : clock without_engine (Component e2) ≡ at 19783 9 30
clock_of_removed = refl

clock_from_removal : clock (first_aircraft ∷ logged (codes "C1") (engine_with e1) ∷ logged (codes "F1") (fit e1 abcd engine (at 19754 0 0)) ∷ logged (codes "R1") (remove e1 (at 19760 0 0)) ∷ []) (Airframe abcd) ≡ at 19760 0 0
clock_from_removal = refl

-- a fitting before the clock of the airframe, which is greater than the component's
fitted_too_early : judge without_engine (logged (codes "X1") (fit e1 abcd engine (at 19784 8 59))) ≡ Refused (OutOfOrder (at 19784 9 0))
fitted_too_early = refl

-- and one before the clock of the component, which is greater than the airframe's
component_too_early : judge (without_engine ++ second_aircraft ∷ []) (logged (codes "X1") (fit e1 efgh engine (at 19783 9 29))) ≡ Refused (OutOfOrder (at 19783 9 30))
component_too_early = refl

fitted_at_the_clock : judge without_engine (logged (codes "X1") (fit e1 abcd engine (at 19784 9 0))) ≡ New
fitted_at_the_clock = refl

-- a removal before the last landing of the aircraft
removed_too_early : judge fitted_once (logged (codes "X1") (remove e1 (at 19783 9 29))) ≡ Refused (OutOfOrder (at 19783 9 30))
removed_too_early = refl

removed_at_the_clock : judge fitted_once (logged (codes "X1") (remove e1 (at 19783 9 30))) ≡ New
removed_at_the_clock = refl

-- ── two parts ──

-- fitted in the other order than that of their positions
abbrev pub two_parts : List Entry
two_parts = first_aircraft ∷ logged (codes "C3") (Listed (record { serial = codes "P1"; part = codes "HC2"; birth = 14610; opening = used 500 50; as_of = at 19723 0 0 }))
    ∷ logged (codes "F4") (fit (codes "P1") abcd propeller (at 19754 0 0))
    ∷ logged (codes "C1") (engine_with e1) ∷ logged (codes "F1") (fit e1 abcd engine (at 19754 0 0)) ∷ first_sector 1 ∷ []

two_parts-book : is_book two_parts ≡ true
two_parts-book = refl
