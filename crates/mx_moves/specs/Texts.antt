-- The texts of the moves that no other call has.
use Rattle.std.specs.Prelude.{ℕ, List, codes}

-- deletes the row of the point
abbrev pub point_gone : List ℕ
point_gone = codes "DELETE FROM office WHERE id = ?1"

-- the first 64 sectors of `sector1`
abbrev pub first_sectors : List ℕ
first_sectors = codes "SELECT seq, aircraft, page, line, took_off, landed, cycles FROM sector1 ORDER BY seq LIMIT 64"

-- the fittings of a component in `fit1`
abbrev pub fit1_by_component : List ℕ
fit1_by_component = codes "SELECT seq, component, aircraft, position, moment FROM fit1 WHERE component = ?1 ORDER BY seq"

-- the removals of a component in `removal1`
abbrev pub removal1_by_component : List ℕ
removal1_by_component = codes "SELECT seq, component, moment FROM removal1 WHERE component = ?1 ORDER BY seq"

-- deletes the removals of a component from `removal1`
abbrev pub removal1_gone : List ℕ
removal1_gone = codes "DELETE FROM removal1 WHERE component = ?1"

-- the first 64 deferrals of `defect`
abbrev pub first_deferrals : List ℕ
first_deferrals = codes "SELECT seq, aircraft, moment, reference, category, days FROM defect ORDER BY seq LIMIT 64"

-- deletes the deferrals of `defect` up to an entry
abbrev pub defect_gone : List ℕ
defect_gone = codes "DELETE FROM defect WHERE seq <= ?1"

-- deletes the last bases of an item from `base2`
abbrev pub base2_gone : List ℕ
base2_gone = codes "DELETE FROM base2 WHERE item = ?1"
