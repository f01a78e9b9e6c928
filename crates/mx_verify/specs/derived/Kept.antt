-- What layouts 2 and 3 keep of the items and the deferrals of a book, and of which tasks the last bases are kept.
use Rattle.std.specs.Prelude.{◌≡◌, ℕ, Bool, true, ◌&&◌, nat_eq, List, Option, IsPermutation, is_some}
use Rattle.std.specs.List.{list_all, list_any}
use Rattle.std.specs.Option.{option_and_then, option_map}
use Rattle.mx_book.specs.commands.Act.{Entry}
use Rattle.mx_book.specs.commands.Same.{same_text}
use Rattle.mx_base.specs.declared.rows.rows.BaseRow.{BaseRow}
use Rattle.mx_base.specs.declared.rows.rows.OpeningRow.{OpeningRow}
use Rattle.mx_base.specs.declared.rows.rows.ReleaseLineRow.{ReleaseLineRow}
use Rattle.mx_registers.specs.Names.{item_at}
use Rattle.mx_registers.specs.kept.Bases.{AreKeyedOnce, base_row, base_rows}
use Rattle.mx_registers.specs.kept.Totals.{total_rows}
use Rattle.mx_registers.specs.late.Done.{done_rows}
use Rattle.mx_registers.specs.late.Found.{found_rows}
use Rattle.mx_registers.specs.file.Bases.{has_key, is_last_base}
use Rattle.mx_verify.specs.declared.derived.kept.KeptRows.{KeptRows}

-- ── what is kept of a book ──

-- the rows are what is kept of this book: the totals of its items and its deferrals with their cycles, each in the order of their numbers, and its last bases and its accomplishments, in any order
pub record AreKeptOf (kept : KeptRows) (book : List Entry) : Type 0 where
  pub totals : kept.totals.items ≡ total_rows book
  pub bases : IsPermutation kept.bases.items (base_rows book)
  pub found : kept.found.items ≡ found_rows book
  pub done : IsPermutation kept.done.items (done_rows book)

-- ── of which tasks the last bases are kept ──

-- the task that an opening states, with the number of the item
abbrev pub key_stated : OpeningRow → ℕ × List ℕ
key_stated row = (row.item, row.task)

-- the task that a line of a release certifies, with the number of the item, where it certifies one
abbrev pub key_certified : ReleaseLineRow → Option (ℕ × List ℕ)
key_certified row = option_and_then (λ item. option_map (λ task. (item, task)) row.task) row.item

-- it is this task of the item with this number
abbrev pub is_key : ℕ → List ℕ → ℕ × List ℕ → Bool
is_key number id key = nat_eq key.0 number && same_text key.1 id

-- the row of the last base of a task of the item that the entry with this number added, where it added one that has a base
abbrev pub base_row_at : List Entry → ℕ × List ℕ → Option BaseRow
base_row_at book key = option_and_then (λ item. base_row book (key.0, item) key.1) (item_at book key.0)

-- the rows are the last bases of these tasks, where they have one, each once: one row for each task, and each of a last base
pub record AreBasesAt (book : List Entry) (keys : List (ℕ × List ℕ)) (rows : List BaseRow) : Type 0 where
  pub once : AreKeyedOnce rows
  pub right : list_all (is_last_base book) rows ≡ true
  pub complete : (number : ℕ) (id : List ℕ) → list_any (is_key number id) keys ≡ true → is_some (base_row_at book (number, id)) ≡ true → has_key number id rows ≡ true
