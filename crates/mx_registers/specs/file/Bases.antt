-- Rows of last bases, and the rows of openings and releases that say of which tasks there are bases.
use Rattle.std.specs.Prelude.{ℕ, nat_eq, Bool, true, false, ◌&&◌, List}
use Rattle.std.specs.List.{list_any}
use Rattle.std.specs.Option.{option_map_or}
use Rattle.mx_base.specs.declared.amounts.Base.{Base}
use Rattle.mx_book.specs.commands.Act.{Entry}
use Rattle.mx_book.specs.commands.Same.{same_text}
use Rattle.mx_book.specs.Base.{base}
use Rattle.mx_registers.specs.Names.{item_at}
use Rattle.mx_base.specs.declared.rows.rows.BaseRow.{BaseRow}
use Rattle.mx_base.specs.declared.rows.rows.OpeningRow.{OpeningRow}
use Rattle.mx_base.specs.declared.rows.rows.ReleaseLineRow.{ReleaseLineRow}
use Rattle.mx_base.specs.rows.Rows.{base_in_row}
use Rattle.mx_registers.specs.kept.Bases.{is_keyed}

-- ── what a row says ──

-- the bases are the same
abbrev pub same_base : Base → Base → Bool
same_base a b = nat_eq a.minutes b.minutes && (nat_eq a.cycles b.cycles && nat_eq a.day b.day)

-- the row has the last base of its task of the item that the entry with its number added
abbrev pub is_last_base : List Entry → BaseRow → Bool
is_last_base book row = option_map_or (λ item. option_map_or (same_base (base_in_row row)) (base book item row.task) false) (item_at book row.item) false

-- ── of which tasks there are rows ──

-- some row is of this task of the item with this number
abbrev pub has_key : ℕ → List ℕ → List BaseRow → Bool
has_key number id rows = list_any (is_keyed number id) rows

-- the opening states a base of this task of the item with this number
abbrev pub states : ℕ → List ℕ → OpeningRow → Bool
states number id row = nat_eq row.item number && same_text row.task id

-- the line certifies this task of the item with this number
abbrev pub certifies : ℕ → List ℕ → ReleaseLineRow → Bool
certifies number id row = option_map_or (λ item. option_map_or (λ task. nat_eq item number && same_text task id) row.task false) row.item false

-- the task that an opening states has a row
abbrev pub is_stated_in : List BaseRow → OpeningRow → Bool
is_stated_in rows row = has_key row.item row.task rows

-- the task that a line certifies, if it certifies one, has a row
abbrev pub is_certified_in : List BaseRow → ReleaseLineRow → Bool
is_certified_in rows row = option_map_or (λ item. option_map_or (λ task. has_key item task rows) row.task true) row.item true
