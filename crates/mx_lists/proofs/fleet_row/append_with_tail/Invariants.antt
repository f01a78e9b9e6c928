use Rattle.std.proofs.Common.{◌≡◌, ◌++◌, map, take}
use Rattle.mx_lists.specs.FleetRow.{with_tail}
use Rattle.mx_lists.proofs.fleet_row.append_with_tail.Given as goal

abbrev pub invariant-loop-row : goal.invariant-loop-row
invariant-loop-row g l = l.rows.items ≡ l.initial.rows.items ++ map (with_tail l.tail) (take l.row-index l.of_aircraft)
