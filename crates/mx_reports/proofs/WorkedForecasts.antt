-- Worked texts of forecasts, computed from the definitions.
use Rattle.std.proofs.Common.{refl, ◌≡◌, List, [], ◌∷◌, Some, None}
use Rattle.std.specs.Prelude.{codes, pos}
use Rattle.std.specs.Fmt.{digits}
use Rattle.mx_base.specs.Calendar.{date_of}
use Rattle.mx_base.specs.Texts.{day_text}
use Rattle.mx_base.specs.declared.amounts.Status.TheVariants as statuses
use Rattle.mx_lists.specs.declared.due_row.DueRow.TheVariants.{Task as TaskRow, Defect as DefectRow}
use Rattle.mx_lists.specs.declared.forecast.ForecastList.{ForecastList}
use Rattle.mx_lists.specs.declared.forecast.ForecastRow.{ForecastRow}
use Rattle.mx_reports.specs.DueText.{place_words}
use Rattle.mx_reports.specs.ForecastText.{forecast_lines}

-- the forecast of 30 days at two hours and one cycle a day with these rows
abbrev looked_ahead : List ForecastRow → ForecastList
looked_ahead rows = record { tail = codes "D-ABCD"; day = 19792; days = 30; minutes = 120; cycles = 1; rows = rows }

of_one_task : forecast_lines (looked_ahead (record {
  after = 25;
  day = pos 19817;
  row = TaskRow statuses.Ok None (codes "100H") (record { minutes = Some (pos 2910); cycles = None; days = None });
} ∷ [])) ≡ codes "forecast D-ABCD 2024-03-10 30 120 1\n25 2024-04-04 airframe 100H\nend 1\n"
unfolding digits day_text date_of place_words
of_one_task = refl

of_a_part_and_a_defect : forecast_lines (looked_ahead (record {
  after = 0;
  day = pos 19792;
  row = TaskRow statuses.Overdue (Some (codes "DISK", codes "L1")) (codes "DISC") (record { minutes = None; cycles = Some (pos 0); days = None });
} ∷ record {
  after = 3;
  day = pos 19795;
  row = DefectRow statuses.Ok (codes "X1") 66 (codes "21-31-01") (pos 19795) (pos 3);
} ∷ [])) ≡ codes "forecast D-ABCD 2024-03-10 30 120 1\n0 2024-03-10 part DISK L1 DISC\n3 2024-03-13 defect X1\nend 2\n"
unfolding digits day_text date_of place_words
of_a_part_and_a_defect = refl

of_nothing : forecast_lines (looked_ahead []) ≡ codes "forecast D-ABCD 2024-03-10 30 120 1\nend 0\n"
unfolding digits day_text date_of
of_nothing = refl
