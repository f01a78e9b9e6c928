-- Worked examples of deferred defects: found, extended and rectified, and by which refusal they are met.
use Rattle.std.proofs.Common.{refl, ◌≡◌, ℕ, List, [], ◌∷◌, ◌++◌, length, true, false}
use Rattle.std.specs.Prelude.{codes, map}
use Rattle.std.specs.List.{list_all}
use Rattle.mx_book.specs.commands.Act.{Act, Entry, Added, Flown, Released, Deferred, Extended}
use Rattle.mx_book.specs.commands.Shape.{has_shape}
use Rattle.mx_base.specs.declared.category.Category.{Category}
use Rattle.mx_base.specs.declared.category.Category.TheVariants.{A, B, C, D}
use Rattle.mx_book.specs.declared.commands.item.Item.TheVariants.{Airframe, Component}
use Rattle.mx_book.specs.declared.commands.release.Line.{Line}
use Rattle.mx_book.specs.declared.commands.release.Line.TheVariants.{Done, Rectified}
use Rattle.mx_book.specs.declared.commands.release.Place.{Place}
use Rattle.mx_book.specs.declared.commands.release.Place.TheVariants.{Aircraft, Shop}
use Rattle.mx_book.specs.declared.verdict.Refusal.TheVariants.{Conflict, UnknownAircraft, UnknownDefect, AlreadyFitted, ItemElsewhere, DefectClosed, OutOfOrder, NotExtendable, AlreadyExtended, ExtensionTooLong, IntervalEnded, OtherAircraft, RepeatedLine}
use Rattle.mx_book.specs.declared.verdict.Verdict.{Verdict}
use Rattle.mx_book.specs.declared.verdict.Verdict.TheVariants.{New, Refused}
use Rattle.mx_book.specs.declared.verdict.Reply.TheVariants as answers
use Rattle.mx_book.specs.Life.{clock}
use Rattle.mx_book.specs.Defect.{is_rectified, open_defects}
use Rattle.mx_book.specs.Judge.{judge}
use Rattle.mx_book.specs.Book.{is_book}
use Rattle.mx_book.specs.Run.{book_after, replies}
use Rattle.mx_book.proofs.Worked.{at, used, abcd, logged}
use Rattle.mx_book.proofs.WorkedFittings.{efgh, engine, e1, fit, engine_with, second_aircraft, on_another}
use Rattle.mx_book.proofs.WorkedProgrammes.{c172, first_programme}

abbrev pub old : List ℕ
old = codes "D-OLD1"

abbrev pub x1 : List ℕ
x1 = codes "X1"

abbrev pub x2 : List ℕ
x2 = codes "X2"

abbrev pub x3 : List ℕ
x3 = codes "X3"

abbrev pub x4 : List ℕ
x4 = codes "X4"

-- a defect of an aircraft that was found at a moment and deferred by the item 21-31-01
abbrev pub defer : List ℕ → ℕ → Category → Act
defer tail moment category = Deferred (record { tail = tail; moment = moment; reference = codes "21-31-01"; category = category })

abbrev pub extend : List ℕ → ℕ → ℕ → Act
extend defect day days = Extended (record { defect = defect; day = day; days = days })

-- a release at a place, by which the defects of some documents were rectified
abbrev pub rectify : Place → ℕ → List (List ℕ) → Act
rectify place moment docs = Released (record { place = place; moment = moment }) (map Rectified docs)

-- D-OLD1 takes an engine IO360, and is counted from 2023-01-01T00:00, day 19,358, on
abbrev old_aircraft : Entry
old_aircraft = logged (codes "A1") (Added (record { tail = old; kind = c172; birth = 10957; opening = used 60000 800; as_of = at 19358 0 0 }) ((engine, codes "IO360") ∷ []))

-- X1 was found on 2023-12-31, X2 on 2024-01-26 and X3 on 2024-02-20, days 19,722, 19,748 and 19,773
abbrev pub three_deferred : List Entry
three_deferred = old_aircraft ∷ logged x1 (defer old (at 19722 10 0) D) ∷ logged x2 (defer old (at 19748 23 59) B) ∷ logged x3 (defer old (at 19773 12 0) C) ∷ []

abbrev judged : List Entry → Act → Verdict
judged book act = judge book (logged (codes "Y1") act)

shapes : list_all has_shape three_deferred ≡ true
shapes = refl

accepted : is_book three_deferred ≡ true
accepted = refl

-- the same again is known; of another category, or found at another minute, it is in conflict
replied : replies three_deferred (logged x2 (defer old (at 19748 23 59) B) ∷ logged x2 (defer old (at 19748 23 59) C) ∷ logged x2 (defer old (at 19748 23 58) B) ∷ [])
    ≡ answers.Already 3 ∷ answers.Refused (Conflict 3) ∷ answers.Refused (Conflict 3) ∷ []
replied = refl

-- ── finding a defect ──

on_unknown_aircraft : judged three_deferred (defer (codes "D-NONE") (at 19774 0 0) C) ≡ Refused UnknownAircraft
on_unknown_aircraft = refl

-- X3 raised the clock of D-OLD1, which began at its as_of
found_behind : map (λ minutes. judged three_deferred (defer old (at 19773 11 minutes) C)) (59 ∷ 60 ∷ []) ≡ Refused (OutOfOrder (at 19773 12 0)) ∷ New ∷ []
found_behind = refl

found_before_the_first_clock : map (λ moment. judged (old_aircraft ∷ []) (defer old moment C)) (at 19357 23 59 ∷ at 19358 0 0 ∷ []) ≡ Refused (OutOfOrder (at 19358 0 0)) ∷ New ∷ []
found_before_the_first_clock = refl

-- a sector that takes off before the defect was found
sectors_behind : map (λ minutes. judge three_deferred (logged (codes "TL/D-OLD1/1/1") (Flown (record { tail = old; page = 1; line = 1; off = at 19773 11 minutes; on = at 19773 14 0; cycles = 1 })))) (59 ∷ 60 ∷ [])
    ≡ Refused (OutOfOrder (at 19773 12 0)) ∷ New ∷ []
sectors_behind = refl

-- E1 is fitted, and then X4 found, which is to be rectified within 5 days: the clock of the component stays
abbrev engine_fitted : List Entry
engine_fitted = three_deferred ++ logged (codes "C1") (engine_with e1) ∷ logged (codes "F1") (fit e1 old engine (at 19773 12 0)) ∷ logged x4 (defer old (at 19774 8 0) (A 5)) ∷ []

engine_fitted-book : is_book engine_fitted ≡ true
engine_fitted-book = refl

clocks : map (clock engine_fitted) (Airframe old ∷ Component e1 ∷ []) ≡ at 19774 8 0 ∷ at 19773 12 0 ∷ []
clocks = refl

-- and so does that of another aircraft
clock_of_another : map (clock (three_deferred ++ second_aircraft ∷ logged x4 (defer old (at 19774 8 0) (A 5)) ∷ [])) (Airframe efgh ∷ Airframe old ∷ []) ≡ at 19723 0 0 ∷ at 19774 8 0 ∷ []
clock_of_another = refl

-- ── extensions ──

-- X2 is of category B: its interval of 3 days, which ends on day 19,751, is at most doubled
extended_by : map (λ days. judged three_deferred (extend x2 19750 days)) (1 ∷ 3 ∷ 4 ∷ []) ≡ New ∷ New ∷ Refused (ExtensionTooLong 3) ∷ []
extended_by = refl

-- X1 has 120 days and X3 has 10
extended_by_more : map (λ days. judged three_deferred (extend x3 19774 days)) (10 ∷ 11 ∷ 120 ∷ []) ≡ New ∷ Refused (ExtensionTooLong 10) ∷ Refused (ExtensionTooLong 10) ∷ []
extended_by_more = refl

extended_by_all : judged three_deferred (extend x1 19774 120) ≡ New
extended_by_all = refl

-- X2 is extended from the day on which it was found until the day on which its interval ends
extended_on : map (λ day. judged three_deferred (extend x2 day 3)) (19747 ∷ 19748 ∷ 19751 ∷ 19752 ∷ [])
    ≡ Refused (OutOfOrder (at 19748 23 59)) ∷ New ∷ New ∷ Refused (IntervalEnded 19751) ∷ []
extended_on = refl

-- it is extended once, by 3 days until 2024-02-01, day 19,754
abbrev pub once_extended : List Entry
once_extended = three_deferred ++ logged (codes "E1") (extend x2 19750 3) ∷ []

once_extended-book : is_book once_extended ≡ true
once_extended-book = refl

once_extended-shapes : list_all has_shape once_extended ≡ true
once_extended-shapes = refl

extended_again : map (λ days. judged once_extended (extend x2 19752 days)) (1 ∷ 3 ∷ []) ≡ Refused AlreadyExtended ∷ Refused AlreadyExtended ∷ []
extended_again = refl

-- and another defect beside it
extended_beside : judged once_extended (extend x3 19774 3) ≡ New
extended_beside = refl

-- the days of category A are those of the item, and are not extended
not_extended : map (λ day. judged engine_fitted (extend x4 day 1)) (19774 ∷ 19780 ∷ []) ≡ Refused NotExtendable ∷ Refused NotExtendable ∷ []
not_extended = refl

-- no defect was deferred by an unknown document, nor by that of the aircraft or of an extension
no_defect : map (λ doc. judged once_extended (extend doc 19774 1)) (x4 ∷ codes "A1" ∷ codes "E1" ∷ []) ≡ Refused UnknownDefect ∷ Refused UnknownDefect ∷ Refused UnknownDefect ∷ []
no_defect = refl

-- X2 was rectified on 2024-02-22, day 19,775
abbrev pub once_rectified : List Entry
once_rectified = three_deferred ++ logged (codes "WO1") (rectify (Aircraft old) (at 19775 9 0) (x2 ∷ [])) ∷ []

once_rectified-book : is_book once_rectified ≡ true
once_rectified-book = refl

extended_since : map (λ doc. judged once_rectified (extend doc 19775 3)) (x2 ∷ x3 ∷ []) ≡ Refused DefectClosed ∷ New ∷ []
extended_since = refl

-- ── rectified defects ──

-- what was not deferred, and what was rectified before
unknown_rectified : map (λ docs. judged three_deferred (rectify (Aircraft old) (at 19775 9 0) docs)) ((x4 ∷ []) ∷ (codes "A1" ∷ []) ∷ (x1 ∷ x4 ∷ []) ∷ []) ≡ Refused UnknownDefect ∷ Refused UnknownDefect ∷ Refused UnknownDefect ∷ []
unknown_rectified = refl

rectified_again : map (λ docs. judged once_rectified (rectify (Aircraft old) (at 19776 9 0) docs)) ((x2 ∷ []) ∷ (x1 ∷ x2 ∷ []) ∷ (x1 ∷ []) ∷ []) ≡ Refused DefectClosed ∷ Refused DefectClosed ∷ New ∷ []
rectified_again = refl

-- E1 is in the shop, and Z1 a defect of D-EFGH
abbrev pub beside_another : List Entry
beside_another = three_deferred ++ second_aircraft ∷ logged (codes "C1") (engine_with e1) ∷ logged (codes "Z1") (defer efgh (at 19773 12 0) C) ∷ []

beside_another-book : is_book beside_another ≡ true
beside_another-book = refl

-- a release at an aircraft is of its own defects, and one in a shop of none
rectified_elsewhere : map (λ place. judged beside_another (rectify place (at 19775 9 0) (x1 ∷ []))) (Aircraft efgh ∷ Shop e1 c172 ∷ Aircraft old ∷ []) ≡ Refused OtherAircraft ∷ Refused OtherAircraft ∷ New ∷ []
rectified_elsewhere = refl

-- one line of another aircraft is enough
partly_elsewhere : map (λ docs. judged beside_another (rectify (Aircraft old) (at 19775 9 0) docs)) ((x1 ∷ codes "Z1" ∷ []) ∷ (codes "Z1" ∷ x1 ∷ []) ∷ []) ≡ Refused OtherAircraft ∷ Refused OtherAircraft ∷ []
partly_elsewhere = refl

repeated_line : map (λ docs. judged three_deferred (rectify (Aircraft old) (at 19775 9 0) docs)) ((x1 ∷ x1 ∷ []) ∷ (x1 ∷ x3 ∷ x1 ∷ []) ∷ []) ≡ Refused RepeatedLine ∷ Refused RepeatedLine ∷ []
repeated_line = refl

-- two defects in one release
both_rectified : map (is_rectified (book_after three_deferred (logged (codes "WO1") (rectify (Aircraft old) (at 19775 9 0) (x3 ∷ x1 ∷ []))))) (x1 ∷ x2 ∷ x3 ∷ []) ≡ true ∷ false ∷ true ∷ []
both_rectified = refl

-- ── twenty lines ──

-- nineteen defects of D-ABCD on 2024-03-03; E1 is fitted to D-EFGH
abbrev nineteen : List (List ℕ)
nineteen = codes "N01" ∷ codes "N02" ∷ codes "N03" ∷ codes "N04" ∷ codes "N05" ∷ codes "N06" ∷ codes "N07" ∷ codes "N08" ∷ codes "N09" ∷ codes "N10"
    ∷ codes "N11" ∷ codes "N12" ∷ codes "N13" ∷ codes "N14" ∷ codes "N15" ∷ codes "N16" ∷ codes "N17" ∷ codes "N18" ∷ codes "N19" ∷ []

abbrev nineteen_deferred : List Entry
nineteen_deferred = on_another ++ first_programme ∷ map (λ doc. logged doc (defer abcd (at 19785 0 0) D)) nineteen

-- all of them rectified on 2024-03-06, and these lines beside them
abbrev twenty_lines : List Line → Entry
twenty_lines lines = logged (codes "WO1") (Released (record { place = Aircraft abcd; moment = at 19788 0 0 }) (map Rectified nineteen ++ lines))

twenty_lines-shape : has_shape (twenty_lines (Done (Component e1) (codes "OVH") ∷ [])) ≡ true
twenty_lines-shape = refl

-- an engine that is overhauled at another aircraft refuses them all
twentieth_refused : judge nineteen_deferred (twenty_lines (Done (Component e1) (codes "OVH") ∷ [])) ≡ Refused ItemElsewhere
twentieth_refused = refl

all_stay_open : length (open_defects (book_after nineteen_deferred (twenty_lines (Done (Component e1) (codes "OVH") ∷ []))) abcd) ≡ 19
all_stay_open = refl

all_rectified : map (λ lines. length (open_defects (book_after nineteen_deferred (twenty_lines lines)) abcd)) ([] ∷ (Done (Airframe abcd) (codes "100H") ∷ []) ∷ []) ≡ 0 ∷ 0 ∷ []
all_rectified = refl

-- ── of two refusals the one with the lesser number ──

-- before the clock of D-OLD1: of a defect that was rectified, of one of D-EFGH, of one that is named twice
before_the_clock : map (λ docs. judged (beside_another ++ logged (codes "WO1") (rectify (Aircraft old) (at 19775 9 0) (x2 ∷ [])) ∷ []) (rectify (Aircraft old) (at 19775 8 59) docs))
    ((x2 ∷ []) ∷ (codes "Z1" ∷ []) ∷ (x1 ∷ x1 ∷ []) ∷ [])
    ≡ Refused DefectClosed ∷ Refused (OutOfOrder (at 19775 9 0)) ∷ Refused (OutOfOrder (at 19775 9 0)) ∷ []
before_the_clock = refl

-- a shop names a component that is fitted, and a defect that was not deferred, or was
unknown_before_fitted : map (λ doc. judged engine_fitted (rectify (Shop e1 c172) (at 19775 9 0) (doc ∷ []))) (codes "X9" ∷ x1 ∷ []) ≡ Refused UnknownDefect ∷ Refused AlreadyFitted ∷ []
unknown_before_fitted = refl

twice_elsewhere : judged beside_another (rectify (Aircraft old) (at 19775 9 0) (codes "Z1" ∷ codes "Z1" ∷ [])) ≡ Refused OtherAircraft
twice_elsewhere = refl

-- an extension before the discovery of what was rectified, of what states its days, and of what was extended
extended_before_found : judged once_rectified (extend x2 19747 3) ≡ Refused DefectClosed
extended_before_found = refl

stated_before_found : judged engine_fitted (extend x4 19773 1) ≡ Refused (OutOfOrder (at 19774 8 0))
stated_before_found = refl

again_before_found : judged once_extended (extend x2 19747 3) ≡ Refused (OutOfOrder (at 19748 23 59))
again_before_found = refl

-- too long, past the last day, and a second time
too_long_and_ended : judged three_deferred (extend x2 19752 4) ≡ Refused (ExtensionTooLong 3)
too_long_and_ended = refl

again_and_too_long : judged once_extended (extend x2 19755 4) ≡ Refused AlreadyExtended
again_and_too_long = refl
