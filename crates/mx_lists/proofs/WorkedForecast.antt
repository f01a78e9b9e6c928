-- Worked forecasts: of the first aircraft, of one that is not flown, of a disc, of deferred defects.
use Rattle.std.proofs.Common.{refl, ◌≡◌, List, [], ◌∷◌, Some, None}
use Rattle.std.specs.Prelude.{codes, pos}
use Rattle.mx_base.specs.declared.amounts.Status.TheVariants as statuses
use Rattle.mx_book.specs.commands.Act.{Entry, Deferred}
use Rattle.mx_base.specs.declared.category.Category.TheVariants.{B}
use Rattle.mx_book.proofs.Worked.{at, abcd, logged}
use Rattle.mx_book.proofs.WorkedFittings.{efgh, first_aircraft}
use Rattle.mx_book.proofs.WorkedProgrammes.{c172, first_four}
use Rattle.mx_lists.specs.declared.due_row.DueRow.{DueRow}
use Rattle.mx_lists.specs.declared.due_row.DueRow.TheVariants.{Defect as DefectRow}
use Rattle.mx_lists.specs.declared.forecast.TheConstants.{MOST_DAYS, MOST_MINUTES, MOST_CYCLES}
use Rattle.mx_lists.specs.Forecast.{forecast, forecast_rows}
use Rattle.mx_lists.proofs.WorkedDues.{airframe_row, minutes_left}

abbrev hundred_hours_row : DueRow
hundred_hours_row = airframe_row statuses.Ok (codes "100H") (minutes_left (pos 2910))

abbrev annual_row : DueRow
annual_row = airframe_row statuses.Ok (codes "ANNUAL") (record { minutes = None; cycles = None; days = Some (pos 82) })

-- on 2024-03-10, day 19,792, with 48:30 hours left at two hours a day: on the 25th day, 2024-04-04, the rest of a day counted whole
first_forecast : forecast first_four abcd 19792 30 120 1 ≡ Some (record {
  tail = abcd;
  day = 19792;
  days = 30;
  minutes = 120;
  cycles = 1;
  rows = record { after = 25; day = pos 19817; row = hundred_hours_row } ∷ [];
})
first_forecast = refl

-- not flown, nothing comes due in thirty days
forecast_on_the_ground : forecast_rows first_four abcd c172 19792 30 0 0 ≡ []
forecast_on_the_ground = refl

-- but after 82 days it does
forecast_by_days : forecast_rows first_four abcd c172 19792 82 0 0 ≡ record { after = 82; day = pos 19874; row = annual_row } ∷ []
forecast_by_days = refl

forecast_a_day_short : forecast_rows first_four abcd c172 19792 81 0 0 ≡ []
forecast_a_day_short = refl

-- a row that is reached after the last day is none; the sooner stands first
forecast_in_order : forecast_rows first_four abcd c172 19792 82 30 0 ≡ record { after = 82; day = pos 19874; row = annual_row } ∷ []
forecast_in_order = refl

forecast_of_both : forecast_rows first_four abcd c172 19792 97 30 0 ≡ record { after = 82; day = pos 19874; row = annual_row } ∷ record { after = 97; day = pos 19889; row = hundred_hours_row } ∷ []
forecast_of_both = refl

forecast_of_an_unknown_aircraft : forecast first_four efgh 19792 30 120 1 ≡ None
forecast_of_an_unknown_aircraft = refl

-- a defect of category B that is found on 2024-03-10 is reached on its last day, 2024-03-13, however much is flown
abbrev deferred : List Entry
deferred = first_aircraft ∷ logged (codes "X1") (Deferred (record { tail = abcd; moment = at 19792 8 0; reference = codes "21-31-01"; category = B })) ∷ []

forecast_of_a_defect : forecast_rows deferred abcd c172 19792 30 120 4 ≡ record { after = 3; day = pos 19795; row = DefectRow statuses.Ok (codes "X1") 66 (codes "21-31-01") (pos 19795) (pos 3) } ∷ []
forecast_of_a_defect = refl

-- ── the bounds, as numbers ──

-- days ahead, and minutes and cycles a day
most_of_a_forecast : MOST_DAYS ∷ MOST_MINUTES ∷ MOST_CYCLES ∷ [] ≡ 3650 ∷ 1440 ∷ 50 ∷ []
most_of_a_forecast = refl
