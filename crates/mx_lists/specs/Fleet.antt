-- The lists of all aircraft in one: what is due on them, what will be, and the limits of their open defects.
use Rattle.std.specs.Prelude.{ℕ, List, [], map, filter, not, Bool}
use Rattle.std.specs.List.{flat_map}
use Rattle.std.specs.Option.{option_map_or}
use Rattle.mx_book.specs.commands.Act.{Entry, aircraft_of}
use Rattle.mx_book.specs.commands.Same.{same_text}
use Rattle.mx_book.specs.Defect.{defects, is_rectified}
use Rattle.mx_book.specs.Register.{aircraft, register}
use Rattle.mx_book.specs.declared.defects.Defect.{Defect}
use Rattle.mx_lists.specs.declared.due_row.DueRow.{DueRow}
use Rattle.mx_lists.specs.declared.fleet_row.FleetRow.{FleetRow}
use Rattle.mx_lists.specs.declared.fleet_lists.DeferredList.{DeferredList}
use Rattle.mx_lists.specs.declared.fleet_lists.FleetList.{FleetList}
use Rattle.mx_lists.specs.declared.fleet_lists.OutlookList.{OutlookList}
use Rattle.mx_lists.specs.declared.forecast.ForecastRow.{ForecastRow}
use Rattle.mx_lists.specs.declared.limit_list.LimitRow.{LimitRow}
use Rattle.mx_lists.specs.DueList.{due_list}
use Rattle.mx_lists.specs.DueRow.{row_before}
use Rattle.mx_lists.specs.FleetRow.{fleet_before, with_tail}
use Rattle.mx_lists.specs.Forecast.{forecast, sooner}
use Rattle.mx_lists.specs.LimitList.{limit_before, limit_row}
use Rattle.mx_lists.specs.Order.{in_order, text_before}

-- the registrations of all aircraft, in the order of their entries
abbrev pub tails : List Entry → List (List ℕ)
tails book = map (λ a. a.tail) (register aircraft_of book)

-- the same by text
abbrev pub tails_by_text : List Entry → List (List ℕ)
tails_by_text book = in_order text_before (tails book)

-- the rows of one aircraft, each with its registration
abbrev pub rows_of_one : {X : Type 0} → (List ℕ → List X) → List ℕ → List (FleetRow X)
rows_of_one rows tail = map (with_tail tail) (rows tail)

-- the rows of these aircraft in one order, which are those of the first one before those of the next where they tie
abbrev pub rows_of_all : {X : Type 0} → (X → X → Bool) → (List ℕ → List X) → List (List ℕ) → List (FleetRow X)
rows_of_all before rows aircraft = in_order (fleet_before before) (flat_map (rows_of_one rows) aircraft)

-- those of these rows that are of an aircraft, without its registration
abbrev pub rows_with_tail : {X : Type 0} → List ℕ → List (FleetRow X) → List X
rows_with_tail tail rows = map (λ r. r.row) (filter (λ r. same_text r.tail tail) rows)

-- the defect is of this aircraft
abbrev pub is_on : List ℕ → Defect → Bool
is_on tail d = same_text d.deferral.tail tail

-- the rows that an aircraft has by its kind and by those of these defects that are its own, none where the registration is unknown
abbrev pub rows_among : {X : Type 0} → (List ℕ → List ℕ → List Defect → List X) → List Entry → List Defect → List ℕ → List X
rows_among rows book defects tail = option_map_or (λ a. rows tail a.kind (filter (is_on tail) defects)) (aircraft book tail) []

-- what is due on an aircraft, in the order of its due list
abbrev pub dues_of : List Entry → ℕ → List ℕ → List DueRow
dues_of book day tail = option_map_or (λ list. list.rows) (due_list book tail day) []

-- what is due on all aircraft on a day: the overdue, then the due, then the others, each by registration and then in the order of the aircraft's own list
abbrev pub fleet : List Entry → ℕ → FleetList
fleet book day = record { day = day; rows = rows_of_all row_before (dues_of book day) (tails_by_text book) }

-- what will be due on an aircraft, in the order of its forecast
abbrev pub reached_of : List Entry → ℕ → ℕ → ℕ → ℕ → List ℕ → List ForecastRow
reached_of book day days minutes cycles tail = option_map_or (λ list. list.rows) (forecast book tail day days minutes cycles) []

-- what will be due on all aircraft: by the number of days, then by registration, and then in the order of the aircraft's own forecast
abbrev pub outlook : List Entry → ℕ → ℕ → ℕ → ℕ → OutlookList
outlook book day days minutes cycles = record {
  day = day;
  days = days;
  minutes = minutes;
  cycles = cycles;
  rows = rows_of_all sooner (reached_of book day days minutes cycles) (tails_by_text book);
}

-- the open defects of all aircraft, in the order of their entries
abbrev pub all_open : List Entry → List Defect
all_open book = filter (λ d. not (is_rectified book d.doc)) (defects book)

-- the limit of an open defect, with the registration of its aircraft
abbrev pub deferred_row : List Entry → ℕ → Defect → FleetRow LimitRow
deferred_row book day d = with_tail d.deferral.tail (limit_row book day d)

-- the limits of all aircraft on a day: by their last days, those of one day in the order of their entries
abbrev pub deferred : List Entry → ℕ → DeferredList
deferred book day = record { day = day; rows = in_order (fleet_before limit_before) (map (deferred_row book day) (all_open book)) }
