-- Of which tasks that openings state and lines of releases certify a map has rows.
use Rattle.std.specs.Prelude.{ℕ, Bool, true, false, List}
use Rattle.std.specs.BTreeMap.{BTreeMap}
use Rattle.std.specs.Option.{option_map_or}
use Rattle.mx_base.specs.declared.rows.rows.OpeningRow.{OpeningRow}
use Rattle.mx_base.specs.declared.rows.rows.ReleaseLineRow.{ReleaseLineRow}
use Rattle.mx_indexed_book.specs.maps.Maps.{held}
use Rattle.mx_indexed_book.specs.moments.Done.{task_cmp}

-- the map has the task that an opening states
abbrev pub has_stated : BTreeMap (ℕ × List ℕ) Bool → OpeningRow → Bool
has_stated keys row = held task_cmp false keys (row.item, row.task)

-- the map has the task that a line certifies, if it certifies one
abbrev pub has_certified : BTreeMap (ℕ × List ℕ) Bool → ReleaseLineRow → Bool
has_certified keys row = option_map_or (λ item. option_map_or (λ task. held task_cmp false keys (item, task)) row.task true) row.item true
