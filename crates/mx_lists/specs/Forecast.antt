-- The forecast of an aircraft: after how many days each row of its due list is reached, at the rate that it is flown.
use Rattle.std.specs.Prelude.{ℕ, ◌+◌, pos, nat_lt, List, Bool, Option}
use Rattle.std.specs.List.{filter_map}
use Rattle.std.specs.Option.{option_map}
use Rattle.mx_book.specs.commands.Act.{Entry}
use Rattle.mx_book.specs.due.Reach.{reaches, reaches_some, least_up_to}
use Rattle.mx_book.specs.Register.{aircraft}
use Rattle.mx_lists.specs.declared.due_row.DueRow.{DueRow}
use Rattle.mx_lists.specs.declared.due_row.DueRow.TheVariants.{Task as TaskRow, Defect as DefectRow}
use Rattle.mx_lists.specs.declared.forecast.ForecastRow.{ForecastRow}
use Rattle.mx_lists.specs.declared.forecast.ForecastList.{ForecastList}
use Rattle.mx_lists.specs.DueList.{rows_by_place}
use Rattle.mx_lists.specs.Order.{in_order}

-- a row is reached after so many days, at these minutes and cycles a day: a task in some dimension, a defect on its last day
abbrev pub is_reached_after : ℕ → ℕ → DueRow → ℕ → Bool
is_reached_after minutes cycles (TaskRow status place task left) n = reaches_some minutes cycles left n
is_reached_after minutes cycles (DefectRow status doc letter reference last left) n = reaches 1 left n

-- the row that is reached so many days after a day
abbrev pub row_after : ℕ → DueRow → ℕ → ForecastRow
row_after day row n = record { after = n; day = pos (day + n); row = row }

-- a row with the least number of days after which it is reached, where that is within so many
abbrev pub forecast_row : ℕ → ℕ → ℕ → ℕ → DueRow → Option ForecastRow
forecast_row day days minutes cycles row = option_map (row_after day row) (least_up_to days (is_reached_after minutes cycles row))

-- one row comes before another: by the days after which they are reached
abbrev pub sooner : ForecastRow → ForecastRow → Bool
sooner a b = nat_lt a.after b.after

-- the rows of an aircraft of a kind that are reached within so many days: by the number of days, those of one number by place
abbrev pub forecast_rows : List Entry → List ℕ → List ℕ → ℕ → ℕ → ℕ → ℕ → List ForecastRow
forecast_rows book tail kind day days minutes cycles =
    in_order sooner (filter_map (forecast_row day days minutes cycles) (rows_by_place book tail kind day))

-- the forecast of an aircraft from a day on
abbrev pub forecast : List Entry → List ℕ → ℕ → ℕ → ℕ → ℕ → Option ForecastList
forecast book tail day days minutes cycles =
    option_map (λ a. record {
      tail = tail;
      day = day;
      days = days;
      minutes = minutes;
      cycles = cycles;
      rows = forecast_rows book tail a.kind day days minutes cycles;
    }) (aircraft book tail)
