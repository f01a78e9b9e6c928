-- The orders of rows are orders: of two, at most one comes before the other, and ties tie.
use Rattle.std.specs.Prelude.{ℕ, ℤ, int_lt, ◌≡◌, false, true, Bool, List}
use Rattle.std.specs.Cmp.{IsStrictWeakOrder}
use Rattle.std.specs.Cmp.Lexicographic.{nat_list_cmp_total}
use Rattle.std.proofs.Common.{arith}
use Rattle.std.proofs.lemmas.Int.{ints}
use Rattle.std.proofs.lemmas.List.Sorted.{ranks_by, IsStrictWeakOrder-by_number}
use Rattle.mx_book.specs.declared.commands.programme.Task.{Task}
use Rattle.mx_lists.specs.declared.due_row.DueRow.{DueRow}
use Rattle.mx_lists.specs.declared.forecast.ForecastRow.{ForecastRow}
use Rattle.mx_lists.specs.declared.fleet_row.FleetRow.{FleetRow}
use Rattle.mx_lists.specs.declared.inventory.AircraftRow.{AircraftRow}
use Rattle.mx_lists.specs.declared.inventory.ComponentRow.{ComponentRow}
use Rattle.mx_lists.specs.declared.life_list.FittedPart.{FittedPart}
use Rattle.mx_lists.specs.declared.limit_list.LimitRow.{LimitRow}
use Rattle.mx_lists.specs.DueRow.{status_rank, row_status, row_before}
use Rattle.mx_lists.specs.DueList.{task_before}
use Rattle.mx_lists.specs.FleetRow.{fleet_before}
use Rattle.mx_lists.specs.Forecast.{sooner}
use Rattle.mx_lists.specs.Inventory.{aircraft_before, component_before}
use Rattle.mx_lists.specs.LimitList.{limit_before}
use Rattle.mx_lists.specs.LifeList.{part_before}
use Rattle.mx_lists.specs.Order.{text_before}

-- the order of parts by their positions is an order
pub parts_rank : IsStrictWeakOrder part_before
parts_rank = ranks_by nat_list_cmp_total (λ (p : FittedPart). p.position)

-- the order of tasks by their names is an order
pub tasks_rank : IsStrictWeakOrder task_before
tasks_rank = ranks_by nat_list_cmp_total (λ (t : Task). t.id)

-- the order of rows by how they stand is an order
pub due_rows_rank : IsStrictWeakOrder row_before
due_rows_rank = IsStrictWeakOrder-by_number (λ (r : DueRow). status_rank (row_status r))

-- the order of a forecast by numbers of days is an order
pub forecast_rank : IsStrictWeakOrder sooner
forecast_rank = IsStrictWeakOrder-by_number (λ (r : ForecastRow). r.after)

ints_one_way : (x y : ℤ) → int_lt x y ≡ true → int_lt y x ≡ false
ints_one_way x y h = grind (arith, ints)

ints_chain : (x y z : ℤ) → int_lt x y ≡ false → int_lt y z ≡ false → int_lt x z ≡ false
ints_chain x y z h k = grind (arith, ints)

-- the order of limits by their last days is an order
pub limits_rank : IsStrictWeakOrder limit_before
limits_rank = record { one_way = λ (x : LimitRow) (y : LimitRow). ints_one_way x.last y.last; chain = λ (x : LimitRow) (y : LimitRow) (z : LimitRow). ints_chain x.last y.last z.last }

-- the order of registrations by text is an order
pub tails_rank : IsStrictWeakOrder text_before
tails_rank = ranks_by nat_list_cmp_total (λ (tail : List ℕ). tail)

-- the order of aircraft by their registrations is an order
pub aircraft_rank : IsStrictWeakOrder aircraft_before
aircraft_rank = ranks_by nat_list_cmp_total (λ (row : AircraftRow). row.tail)

-- the order of components by their serial numbers is an order
pub components_rank : IsStrictWeakOrder component_before
components_rank = ranks_by nat_list_cmp_total (λ (row : ComponentRow). row.serial)

-- an order of rows is one of rows with registrations
pub fleet_rank : {X : Type 0} {before : X → X → Bool} → IsStrictWeakOrder before → IsStrictWeakOrder (fleet_before before)
fleet_rank {X} order = record { one_way = λ (a : FleetRow X) (b : FleetRow X). order.one_way a.row b.row; chain = λ (a : FleetRow X) (b : FleetRow X) (c : FleetRow X). order.chain a.row b.row c.row }
