-- The text of a forecast.
use Rattle.std.specs.Prelude.{ℕ, List, [], ◌∷◌, ◌++◌, codes, length, unsigned_abs}
use Rattle.std.specs.Fmt.{decimal}
use Rattle.std.specs.List.{flat_map}
use Rattle.mx_base.specs.Texts.{day_text, day_number_text}
use Rattle.mx_lists.specs.declared.due_row.DueRow.{DueRow}
use Rattle.mx_lists.specs.declared.due_row.DueRow.TheVariants.{Task as TaskRow, Defect as DefectRow}
use Rattle.mx_lists.specs.declared.forecast.ForecastList.{ForecastList}
use Rattle.mx_lists.specs.declared.forecast.ForecastRow.{ForecastRow}
use Rattle.mx_reports.specs.DueText.{place_words}
use Rattle.mx_reports.specs.Words.{spaced, end_line}

-- the place and TASK, or defect DOC: what is reached
abbrev pub reached_words : DueRow → List ℕ
reached_words (TaskRow status place task left) = place_words place ++ spaced task
reached_words (DefectRow status doc letter reference last left) = spaced (codes "defect") ++ spaced doc

-- N DAY: the number of days and the day, later where that is past the calendar
abbrev pub date_words : ForecastRow → List ℕ
date_words r = decimal r.after ++ spaced (day_number_text (unsigned_abs r.day))

-- N DAY, and what is reached then
abbrev pub forecast_line : ForecastRow → List ℕ
forecast_line r = date_words r ++ (reached_words r.row ++ 10 ∷ [])

-- DAYS MINUTES CYCLES: how far ahead, and how much a day
abbrev pub rate_words : ℕ → ℕ → ℕ → List ℕ
rate_words days minutes cycles = spaced (decimal days) ++ (spaced (decimal minutes) ++ spaced (decimal cycles))

-- forecast TAIL DAY DAYS MINUTES CYCLES
abbrev pub forecast_head : ForecastList → List ℕ
forecast_head l = codes "forecast" ++ (spaced l.tail ++ (spaced (day_text l.day) ++ (rate_words l.days l.minutes l.cycles ++ 10 ∷ [])))

-- the line of the aircraft; a line for each row; end N, where N counts the rows
abbrev pub forecast_lines : ForecastList → List ℕ
forecast_lines l = forecast_head l ++ (flat_map forecast_line l.rows ++ end_line (length l.rows))
