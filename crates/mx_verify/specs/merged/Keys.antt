-- A map of the tasks of items that have rows of last bases.
use Rattle.std.specs.Prelude.{◌≡◌, ℕ, Bool, false, List}
use Rattle.std.specs.BTreeMap.{BTreeMap}
use Rattle.mx_base.specs.declared.rows.rows.BaseRow.{BaseRow}
use Rattle.mx_registers.specs.file.Bases.{has_key}
use Rattle.mx_indexed_book.specs.maps.Maps.{held}
use Rattle.mx_indexed_book.specs.moments.Done.{task_cmp}

-- the map has of which tasks of which items there are rows
abbrev pub AreKeys : List BaseRow → BTreeMap (ℕ × List ℕ) Bool → Type 0
AreKeys rows keys = (number : ℕ) (id : List ℕ) → held task_cmp false keys (number, id) ≡ has_key number id rows
