-- Worked examples of bases, dues and due lists: of inspections, of an overhaul in a shop, of a disc that is retired.
use Rattle.std.proofs.Common.{refl, ◌≡◌, ℕ, List, [], ◌∷◌, ◌++◌, true, false, Some, None}
use Rattle.std.specs.Prelude.{codes, map, ℤ, pos, neg_ℤ}
use Rattle.std.specs.List.{list_all}
use Rattle.mx_base.specs.declared.amounts.Base.{Base}
use Rattle.mx_base.specs.declared.amounts.Left.{Left}
use Rattle.mx_base.specs.declared.amounts.Status.{Status}
use Rattle.mx_base.specs.declared.amounts.Status.TheVariants as statuses
use Rattle.mx_book.specs.commands.Act.{Entry, Added, Listed, Released}
use Rattle.mx_book.specs.commands.Shape.{has_shape}
use Rattle.mx_book.specs.declared.commands.item.Item.TheVariants.{Airframe, Component}
use Rattle.mx_book.specs.declared.commands.programme.Applies.TheVariants as applies
use Rattle.mx_book.specs.declared.commands.programme.Task.{Task}
use Rattle.mx_book.specs.declared.commands.release.Line.{Line}
use Rattle.mx_book.specs.declared.commands.release.Line.TheVariants.{Done}
use Rattle.mx_book.specs.declared.commands.release.Place.{Place}
use Rattle.mx_book.specs.declared.commands.release.Place.TheVariants.{Aircraft, Shop}
use Rattle.mx_book.specs.Book.{is_book}
use Rattle.mx_book.specs.Base.{base}
use Rattle.mx_book.proofs.Worked.{at, used, abcd, logged}
use Rattle.mx_book.proofs.WorkedFittings.{efgh, engine, propeller, e1, e2, fit, engine_with, first_aircraft, replaced}
use Rattle.mx_book.proofs.WorkedProgrammes.{c172, minutes_alone, cycles_alone, days_alone, hundred_hours, annual, overhaul, load, first_programme, first_four, disc, llp1}
use Rattle.mx_lists.specs.declared.due_row.DueRow.{DueRow}
use Rattle.mx_lists.specs.declared.due_row.DueRow.TheVariants.{Task as TaskRow}
use Rattle.mx_lists.specs.Dues.{due}
use Rattle.mx_lists.specs.DueList.{due_rows, due_list}

abbrev pub minutes_left : ℤ → Left
minutes_left n = record { minutes = Some n; cycles = None; days = None }

abbrev cycles_left : ℤ → Left
cycles_left n = record { minutes = None; cycles = Some n; days = None }

abbrev days_left : ℤ → Left
days_left n = record { minutes = None; cycles = None; days = Some n }

abbrev based : ℕ → ℕ → ℕ → Base
based minutes cycles day = record { minutes = minutes; cycles = cycles; day = day }

-- a row of the airframe, and one of a component in its position
abbrev pub airframe_row : Status → List ℕ → Left → DueRow
airframe_row status task left = TaskRow status None task left

abbrev part_row : Status → List ℕ → List ℕ → List ℕ → Left → DueRow
part_row status position serial task left = TaskRow status (Some (position, serial)) task left

-- ── the list of an aircraft ──

-- on 2024-03-10, day 19,792: 48:30 hours are left to 63,000 minutes, and 82 days to 365 days after 2023-06-01; no engine is fitted
first_list : due_list first_four abcd 19792 ≡ Some (record {
  tail = abcd;
  day = 19792;
  life = used 60090 801;
  rows = airframe_row statuses.Ok (codes "100H") (minutes_left (pos 2910)) ∷ airframe_row statuses.Ok (codes "ANNUAL") (days_left (pos 82)) ∷ [];
})
first_list = refl

list_of_the_empty_book : due_list [] abcd 19792 ≡ None
list_of_the_empty_book = refl

list_of_an_unknown_aircraft : due_list first_four efgh 19792 ≡ None
list_of_an_unknown_aircraft = refl

-- a kind without a programme has no rows
list_without_programme : due_list replaced abcd 19792 ≡ Some (record { tail = abcd; day = 19792; life = used 60090 801; rows = [] })
list_without_programme = refl

-- ── dues ──

first_dues : map (due first_four (Airframe abcd) c172) (codes "100H" ∷ codes "ANNUAL" ∷ codes "OVH" ∷ codes "200H" ∷ [])
    ≡ Some (minutes_alone 63000) ∷ Some (days_alone 19874) ∷ None ∷ None ∷ []
first_dues = refl

due_of_another_kind : due first_four (Airframe abcd) (codes "PA28") (codes "100H") ≡ None
due_of_another_kind = refl

-- of an item that is unknown nothing is due
due_of_an_unknown_airframe : due first_four (Airframe efgh) c172 (codes "100H") ≡ None
due_of_an_unknown_airframe = refl

due_of_an_unknown_component : due first_four (Component (codes "E9")) c172 (codes "OVH") ≡ None
due_of_an_unknown_component = refl

base_stated : base first_four (Airframe abcd) (codes "ANNUAL") ≡ Some (based 59000 780 19509)
base_stated = refl

no_base : base first_four (Airframe abcd) (codes "100H") ≡ None
no_base = refl

-- ── the base of an inspection that was done early or late ──

-- an aircraft with this life, and the inspection every 100 hours done at its release on day 19,790
abbrev with_life : ℕ → Entry
with_life minutes = logged (codes "A1") (Added (record { tail = abcd; kind = c172; birth = 10957; opening = used minutes 800; as_of = at 19723 0 0 }) [])

abbrev released : List ℕ → Place → ℕ → List Line → Entry
released doc place moment lines = logged doc (Released (record { place = place; moment = moment }) lines)

abbrev inspected : List ℕ → ℕ → Entry
inspected doc day = released doc (Aircraft abcd) (at day 10 0) (Done (Airframe abcd) (codes "100H") ∷ [])

abbrev done_at : ℕ → List Entry
done_at minutes = with_life minutes ∷ first_programme ∷ inspected (codes "WO1") 19790 ∷ []

-- done late, at 63,400 minutes, it is due again 100 hours from where it was due; done early, from there
base_of_late_work : base (done_at 63400) (Airframe abcd) (codes "100H") ≡ Some (based 63000 800 19790)
base_of_late_work = refl

base_of_early_work : base (done_at 62000) (Airframe abcd) (codes "100H") ≡ Some (based 62000 800 19790)
base_of_early_work = refl

next_dues : map (λ minutes. due (done_at minutes) (Airframe abcd) c172 (codes "100H")) (63400 ∷ 62000 ∷ []) ≡ Some (minutes_alone 69000) ∷ Some (minutes_alone 68000) ∷ []
next_dues = refl

-- the tolerance has no part in it: done 10 hours late it is due where one done in time is
due_after_the_tolerance : map (λ minutes. due (done_at minutes) (Airframe abcd) c172 (codes "100H")) (63000 ∷ 63600 ∷ []) ≡ Some (minutes_alone 69000) ∷ Some (minutes_alone 69000) ∷ []
due_after_the_tolerance = refl

-- done a second time at the same life, which is before it was due, it counts from there
done_twice : base (done_at 63400 ++ inspected (codes "WO2") 19791 ∷ []) (Airframe abcd) (codes "100H") ≡ Some (based 63400 800 19791)
done_twice = refl

-- revision 2 has it every 50 hours: the base stays, and the next due counts by the new repeat
abbrev every_fifty_hours : Task
every_fifty_hours = record hundred_hours { repeat = Some (minutes_alone 3000) }

due_by_revision_two : due (done_at 63400 ++ logged (codes "P2") (load c172 2 (every_fifty_hours ∷ [])) ∷ []) (Airframe abcd) c172 (codes "100H") ≡ Some (minutes_alone 66000)
due_by_revision_two = refl

-- revision 2 has it first at 60,000 minutes: what was done before counts by revision 1, and what is done after by revision 2
abbrev first_earlier : Task
first_earlier = record hundred_hours { first = minutes_alone 60000 }

base_by_the_revision_then : base (done_at 63400 ++ logged (codes "P2") (load c172 2 (first_earlier ∷ [])) ∷ []) (Airframe abcd) (codes "100H") ≡ Some (based 63000 800 19790)
base_by_the_revision_then = refl

base_by_the_revision_now : base (with_life 63400 ∷ first_programme ∷ logged (codes "P2") (load c172 2 (first_earlier ∷ [])) ∷ inspected (codes "WO1") 19790 ∷ []) (Airframe abcd) (codes "100H")
    ≡ Some (based 60000 800 19790)
base_by_the_revision_now = refl

-- due at 63,000 minutes or 9,000 days from birth, day 19,957: late in minutes and early in days
abbrev by_hours_or_days : Task
by_hours_or_days = record hundred_hours { first = record { minutes = Some 63000; cycles = None; days = Some 9000 }; repeat = Some (record { minutes = Some 6000; cycles = None; days = Some 365 }) }

dimension_by_dimension : due (with_life 63400 ∷ logged (codes "P1") (load c172 1 (by_hours_or_days ∷ [])) ∷ inspected (codes "WO1") 19790 ∷ []) (Airframe abcd) c172 (codes "100H")
    ≡ Some (record { minutes = Some 69000; cycles = None; days = Some 20155 })
dimension_by_dimension = refl

-- ── how an inspection stands that may be done 10 hours late ──

statuses_of_the_inspection : map (λ minutes. due_rows (with_life minutes ∷ logged (codes "P1") (load c172 1 (hundred_hours ∷ [])) ∷ []) abcd c172 19792) (62999 ∷ 63000 ∷ 63600 ∷ 63601 ∷ [])
    ≡ (airframe_row statuses.Ok (codes "100H") (minutes_left (pos 1)) ∷ [])
    ∷ (airframe_row statuses.Due (codes "100H") (minutes_left (pos 0)) ∷ [])
    ∷ (airframe_row statuses.Due (codes "100H") (minutes_left (neg_ℤ (pos 600))) ∷ [])
    ∷ (airframe_row statuses.Overdue (codes "100H") (minutes_left (neg_ℤ (pos 601))) ∷ []) ∷ []
statuses_of_the_inspection = refl

-- ── an overhaul in a shop ──

-- E1, which was replaced by E2 after 1,090 minutes, is overhauled on 2024-03-02
abbrev overhauled : List Entry
overhauled = replaced ++ first_programme ∷ released (codes "WO1") (Shop e1 c172) (at 19784 0 0) (Done (Component e1) (codes "OVH") ∷ []) ∷ []

overhauled-shapes : list_all has_shape (released (codes "WO1") (Shop e1 c172) (at 19784 0 0) (Done (Component e1) (codes "OVH") ∷ []) ∷ []) ≡ true
overhauled-shapes = refl

overhauled-book : is_book overhauled ≡ true
overhauled-book = refl

base_of_the_overhaul : base overhauled (Component e1) (codes "OVH") ≡ Some (based 1090 101 19784)
base_of_the_overhaul = refl

due_after_the_overhaul : due overhauled (Component e1) c172 (codes "OVH") ≡ Some (minutes_alone 121090)
due_after_the_overhaul = refl

-- E2 is another component, and its overhaul was never done
due_of_the_other_engine : due overhauled (Component e2) c172 (codes "OVH") ≡ Some (minutes_alone 120000)
due_of_the_other_engine = refl

-- E1 is removed and has no row; E2 is fitted, with 1,000 minutes
list_of_the_overhauled : due_rows overhauled abcd c172 11292
    ≡ airframe_row statuses.Ok (codes "100H") (minutes_left (pos 2910)) ∷ airframe_row statuses.Ok (codes "ANNUAL") (days_left (pos 30))
    ∷ part_row statuses.Ok engine e2 (codes "OVH") (minutes_left (pos 119000)) ∷ []
list_of_the_overhauled = refl

-- with revision 2 the overhaul is done once, or retires the engine
abbrev overhaul_once : Task
overhaul_once = record overhaul { repeat = None }

due_no_more : due (overhauled ++ logged (codes "P2") (load c172 2 (overhaul_once ∷ [])) ∷ []) (Component e1) c172 (codes "OVH") ≡ None
due_no_more = refl

due_at_the_end_of_life : due (overhauled ++ logged (codes "P2") (load c172 2 (record overhaul_once { retire = true } ∷ [])) ∷ []) (Component e1) c172 (codes "OVH") ≡ Some (minutes_alone 120000)
due_at_the_end_of_life = refl

-- ── a disc that is retired ──

abbrev with_last_cycle : List Entry
with_last_cycle =
    logged (codes "A2") (Added (record { tail = efgh; kind = c172; birth = 14610; opening = used 0 0; as_of = at 19723 0 0 }) ((codes "DISK", llp1) ∷ []))
    ∷ logged (codes "C9") (Listed (record { serial = codes "L1"; part = llp1; birth = 14610; opening = used 500 99; as_of = at 19723 0 0 }))
    ∷ logged (codes "P1") (load c172 1 (disc llp1 (cycles_alone 100) ∷ []))
    ∷ logged (codes "F1") (fit (codes "L1") efgh (codes "DISK") (at 19754 0 0)) ∷ []

with_last_cycle-book : is_book with_last_cycle ≡ true
with_last_cycle-book = refl

row_of_the_disc : due_rows with_last_cycle efgh c172 19792 ≡ part_row statuses.Ok (codes "DISK") (codes "L1") (codes "DISC") (cycles_left (pos 1)) ∷ []
row_of_the_disc = refl

-- ── the order of rows ──

-- the propeller H1, fitted first, comes after the engine Z1, whose position comes before; the programme has its tasks in no order
abbrev grease : Task
grease = record { id = codes "GREASE"; applies = applies.Part (codes "HC2"); first = minutes_alone 500; repeat = Some (minutes_alone 500); tolerance = record { minutes = 10; cycles = 0; days = 0 }; retire = false }

abbrev balance : Task
balance = record { id = codes "BALANCE"; applies = applies.Part (codes "HC2"); first = cycles_alone 1000; repeat = Some (cycles_alone 1000); tolerance = record { minutes = 0; cycles = 0; days = 0 }; retire = false }

abbrev fully_fitted : List Entry
fully_fitted =
    first_aircraft
    ∷ logged (codes "C1") (Listed (record { serial = codes "H1"; part = codes "HC2"; birth = 14610; opening = used 500 50; as_of = at 19723 0 0 }))
    ∷ logged (codes "C2") (engine_with (codes "Z1"))
    ∷ logged (codes "F1") (fit (codes "H1") abcd propeller (at 19754 0 0))
    ∷ logged (codes "F2") (fit (codes "Z1") abcd engine (at 19754 0 0))
    ∷ logged (codes "P1") (load c172 1 (overhaul ∷ record overhaul { id = codes "CLEAN" } ∷ grease ∷ annual ∷ balance ∷ hundred_hours ∷ [])) ∷ []

fully_fitted-book : is_book fully_fitted ≡ true
fully_fitted-book = refl

-- the year after birth ended on day 11,322; the propeller has its 500 minutes
rows_in_order : due_rows fully_fitted abcd c172 19792
    ≡ airframe_row statuses.Overdue (codes "ANNUAL") (days_left (neg_ℤ (pos 8470)))
    ∷ part_row statuses.Due propeller (codes "H1") (codes "GREASE") (minutes_left (pos 0))
    ∷ airframe_row statuses.Ok (codes "100H") (minutes_left (pos 3000))
    ∷ part_row statuses.Ok engine (codes "Z1") (codes "CLEAN") (minutes_left (pos 119000))
    ∷ part_row statuses.Ok engine (codes "Z1") (codes "OVH") (minutes_left (pos 119000))
    ∷ part_row statuses.Ok propeller (codes "H1") (codes "BALANCE") (cycles_left (pos 950)) ∷ []
rows_in_order = refl
