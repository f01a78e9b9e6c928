-- Worked examples of the lists of all aircraft, and of what there is.
use Rattle.std.proofs.Common.{refl, ◌≡◌, ℕ, ◌+◌, List, [], ◌∷◌, ◌++◌, true, Some, None}
use Rattle.std.specs.Prelude.{codes, map, pos, negsuc}
use Rattle.mx_base.specs.declared.amounts.Left.{Left}
use Rattle.mx_base.specs.declared.amounts.Status.TheVariants as statuses
use Rattle.mx_base.specs.declared.category.Category.TheVariants.{B}
use Rattle.mx_book.specs.commands.Act.{Entry, Added}
use Rattle.mx_book.specs.Book.{is_book}
use Rattle.mx_book.proofs.Worked.{at, used, abcd, logged}
use Rattle.mx_book.proofs.WorkedDefects.{x1, x2, x3, x4, old, defer, three_deferred}
use Rattle.mx_book.proofs.WorkedFittings.{efgh, engine, e1, e2, second_aircraft, on_another}
use Rattle.mx_book.proofs.WorkedProgrammes.{c172, first_programme}
use Rattle.mx_lists.specs.declared.due_row.DueRow.{DueRow}
use Rattle.mx_lists.specs.declared.fleet_row.FleetRow.{FleetRow}
use Rattle.mx_lists.specs.declared.forecast.ForecastRow.{ForecastRow}
use Rattle.mx_lists.specs.Fleet.{deferred, fleet, outlook, tails, tails_by_text}
use Rattle.mx_lists.specs.FleetRow.{with_tail}
use Rattle.mx_lists.specs.Inventory.{all_aircraft, all_components}
use Rattle.mx_lists.proofs.WorkedDues.{airframe_row, minutes_left}

-- an aircraft with this life, built on 2000-01-01
abbrev with_life : List ℕ → List ℕ → ℕ → Entry
with_life doc tail minutes = logged doc (Added (record { tail = tail; kind = c172; birth = 10957; opening = used minutes 800; as_of = at 19723 0 0 }) [])

-- D-EFGH was added before D-ABCD; the inspection of each 100 hours is due at 63,000 minutes, the annual one 365 days after they were built, on day 11,322
abbrev two : List Entry
two = with_life (codes "A2") efgh 62000 ∷ with_life (codes "A1") abcd 63000 ∷ first_programme ∷ []

two_accepted : is_book two ≡ true
two_accepted = refl

as_entered : tails two ≡ efgh ∷ abcd ∷ []
as_entered = refl

by_registration : tails_by_text two ≡ abcd ∷ efgh ∷ []
by_registration = refl

abbrev annual_passed : DueRow
annual_passed = airframe_row statuses.Overdue (codes "ANNUAL") (record { minutes = None; cycles = None; days = Some (negsuc 8469) })

abbrev at_its_hours : DueRow
at_its_hours = airframe_row statuses.Due (codes "100H") (minutes_left (pos 0))

abbrev hours_before : DueRow
hours_before = airframe_row statuses.Ok (codes "100H") (minutes_left (pos 1000))

-- on 2024-03-10, day 19,792: the overdue of both, then what is due of one, then what is left of the other
all_due : fleet two 19792 ≡ record {
  day = 19792;
  rows = with_tail abcd annual_passed ∷ with_tail efgh annual_passed ∷ with_tail abcd at_its_hours ∷ with_tail efgh hours_before ∷ [];
}
all_due = refl

none_due : fleet [] 19792 ≡ record { day = 19792; rows = [] }
none_due = refl

abbrev after : ℕ → DueRow → ForecastRow
after n row = record { after = n; day = pos (19792 + n); row = row }

-- at an hour a day the 1,000 minutes are flown on the 17th day; what is reached already is by registration, and of one aircraft by task
all_ahead : outlook two 19792 30 60 1 ≡ record {
  day = 19792;
  days = 30;
  minutes = 60;
  cycles = 1;
  rows = with_tail abcd (after 0 at_its_hours) ∷ with_tail abcd (after 0 annual_passed) ∷ with_tail efgh (after 0 annual_passed) ∷ with_tail efgh (after 17 hours_before) ∷ [];
}
all_ahead = refl

-- ── what there is ──

-- D-ABCD landed last at 09:00 on day 19,784, without an engine of record; D-EFGH at 12:00 on day 19,787, with E1
both_aircraft : all_aircraft on_another
    ≡ record { tail = abcd; kind = codes "C172"; life = used 60150 802; clock = at 19784 9 0; components = 0; defects = 0 }
    ∷ record { tail = efgh; kind = codes "C172"; life = used 120 2; clock = at 19787 12 0; components = 1; defects = 0 }
    ∷ []
both_aircraft = refl

-- an open defect is counted, of its aircraft alone
with_open : map (λ r. r.defects) (all_aircraft (three_deferred ++ second_aircraft ∷ [])) ≡ 0 ∷ 3 ∷ []
with_open = refl

-- E1 was fitted to D-EFGH last, E2 was removed last and is fitted nowhere
both_engines : all_components on_another
    ≡ record { serial = e1; part = codes "IO360"; life = used 1210 103; clock = at 19787 0 0; place = Some (efgh, engine) }
    ∷ record { serial = e2; part = codes "IO360"; life = used 1000 100; clock = at 19783 9 30; place = None }
    ∷ []
both_engines = refl

-- ── the limits of all ──

-- X4 of D-EFGH may be open as long as X3, which was deferred before it
abbrev four_deferred : List Entry
four_deferred = three_deferred ++ second_aircraft ∷ logged x4 (defer efgh (at 19780 8 0) B) ∷ []

by_last_day : map {B = List ℕ × List ℕ} (λ r. (r.tail, r.row.doc)) (deferred four_deferred 19783).rows ≡ (old, x2) ∷ (old, x3) ∷ (efgh, x4) ∷ (old, x1) ∷ []
by_last_day = refl

days_left_of_all : map (λ r. r.row.left) (deferred four_deferred 19783).rows ≡ negsuc 31 ∷ pos 0 ∷ pos 0 ∷ pos 59 ∷ []
days_left_of_all = refl
