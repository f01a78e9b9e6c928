-- A row of a list of all aircraft, and which comes first.
use Rattle.std.specs.Prelude.{ℕ, List, Bool}
use Rattle.mx_lists.specs.declared.fleet_row.FleetRow.{FleetRow}

-- the row, with the registration of its aircraft
abbrev pub with_tail : {X : Type 0} → List ℕ → X → FleetRow X
with_tail tail row = record { tail = tail; row = row }

-- one row comes before another: as without their registrations
abbrev pub fleet_before : {X : Type 0} → (X → X → Bool) → FleetRow X → FleetRow X → Bool
fleet_before before a b = before a.row b.row
