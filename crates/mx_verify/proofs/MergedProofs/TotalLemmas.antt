-- The items of a book, entry after entry.
use Rattle.std.proofs.Common.{◌≡◌, ℕ, ◌+◌, List, [], ◌∷◌, ◌++◌, length, map, Option, Some, None, refl, sym, ap, ◌∙◌, arith, append-nil, append_assoc, length-append, slice_get, suc}
use Rattle.std.specs.List.{cons_option}
use Rattle.std.specs.Option.{option_and_then, option_map}
use Rattle.mx_book.specs.commands.Act.{Entry}
use Rattle.mx_book.specs.declared.commands.item.Item.{Item}
use Rattle.mx_book.specs.Book.{entry_at}
use Rattle.mx_registers.specs.Names.{item_added, item_at}
use Rattle.mx_registers.specs.Registers.{gives_by}
use Rattle.mx_base.specs.declared.rows.rows.TotalRow.{TotalRow}
use Rattle.mx_registers.specs.kept.Items.{items_by}
use Rattle.mx_registers.specs.kept.Totals.{total_row, total_rows}

-- the totals of the items that entries add, where the entries are numbered from seq
abbrev pub totals_from : List Entry → ℕ → List Entry → List TotalRow
totals_from book seq [] = []
totals_from book seq (entry ∷ later) = cons_option (option_map (λ item. total_row book (seq, item)) (item_added entry.act)) (totals_from book (seq + 1) later)

from_each : (book before later : List Entry) → totals_from book (length before + 1) later ≡ map (total_row book) (gives_by items_by before later)
from_each book before [] = refl
from_each book before (entry ∷ later) =
    let seq = length before + 1 in
    let step : length (before ++ entry ∷ []) + 1 ≡ seq + 1 = ap (λ n. n + 1) (length-append before (entry ∷ [])) in
    at (item_added entry.act) (ap (λ n. totals_from book n later) (sym step) ∙ from_each book (before ++ entry ∷ []) later)
  where
    at : (o : Option Item) → totals_from book (length before + 1 + 1) later ≡ map (total_row book) (gives_by items_by (before ++ entry ∷ []) later)
        → cons_option (option_map (λ item. total_row book (length before + 1, item)) o) (totals_from book (length before + 1 + 1) later)
        ≡ map (total_row book) (cons_option (option_map (λ item. (length before + 1, item)) o) [] ++ gives_by items_by (before ++ entry ∷ []) later)
    at None h = h
    at (Some item) h = ap (λ rows. total_row book (length before + 1, item) ∷ rows) h

-- those of all entries are the totals of the book
pub all_totals : (book : List Entry) → totals_from book 1 book ≡ total_rows book
all_totals book = from_each book [] book

-- behind the last entry those so far are all
pub ends : (book rest : List Entry) (seq : ℕ) (rows : List TotalRow) → length rest ≡ 0 → rows ++ totals_from book seq rest ≡ totals_from book 1 book → rows ≡ total_rows book
ends book [] seq rows none h = sym (append-nil rows) ∙ h ∙ all_totals book
ends book (entry ∷ rest) seq rows none h = absurd (omega arith)

-- ── an entry and its number ──

-- the entries that are left stand behind others, and the first of them has this number
pub record IsAt (book rest : List Entry) (seq : ℕ) : Type 0 where
  pub before : List Entry
  pub whole : before ++ rest ≡ book
  pub number : seq ≡ length before + 1

pub at_first : (book : List Entry) → IsAt book book 1
at_first book = record { before = []; whole = refl; number = refl }

pub at_next : (book rest later : List Entry) (entry : Entry) (seq : ℕ) → rest ≡ entry ∷ later → IsAt book rest seq → IsAt book later (seq + 1)
at_next book rest later entry seq is at = record {
  before = at.before ++ entry ∷ [];
  whole = append_assoc at.before (entry ∷ []) later ∙ ap (λ l. at.before ++ l) (sym is) ∙ at.whole;
  number = let n = at.number in let l = length-append at.before (entry ∷ []) in omega arith;
}

-- the item that the first of them adds is the one with this number
pub item_first : (book rest later : List Entry) (entry : Entry) (seq : ℕ) → rest ≡ entry ∷ later → IsAt book rest seq → item_at book seq ≡ item_added entry.act
item_first book rest later entry seq is at =
    ap (λ (es : List Entry). item_at es seq) (sym at.whole ∙ ap (λ l. at.before ++ l) is)
    ∙ ap (item_at (at.before ++ entry ∷ later)) at.number
    ∙ ap (option_and_then (λ (e : Entry). item_added e.act)) (seam at.before)
  where
    one : (xs : List Entry) → length xs + 1 ≡ suc (length xs)
    one xs = omega arith

    there : (xs : List Entry) → slice_get (xs ++ entry ∷ later) (length xs) ≡ Some entry
    there [] = refl
    there (x ∷ xs) = there xs

    seam : (xs : List Entry) → entry_at (xs ++ entry ∷ later) (length xs + 1) ≡ Some entry
    seam xs = ap (entry_at (xs ++ entry ∷ later)) (one xs) ∙ there xs

-- the totals with those of one entry more
pub goes_on : (book rest later : List Entry) (entry : Entry) (seq : ℕ) (rows more all : List TotalRow) → rest ≡ entry ∷ later → more ≡ rows ++ cons_option (option_map (λ item. total_row book (seq, item)) (item_added entry.act)) []
    → rows ++ totals_from book seq rest ≡ all → more ++ totals_from book (seq + 1) later ≡ all
goes_on book rest later entry seq rows more all is added h =
    ap (λ xs. xs ++ totals_from book (seq + 1) later) added
    ∙ at (option_map (λ item. total_row book (seq, item)) (item_added entry.act))
    ∙ ap (λ es. rows ++ totals_from book seq es) (sym is) ∙ h
  where
    at : (o : Option TotalRow) → (rows ++ cons_option o []) ++ totals_from book (seq + 1) later ≡ rows ++ cons_option o (totals_from book (seq + 1) later)
    at None = ap (λ xs. xs ++ totals_from book (seq + 1) later) (append-nil rows)
    at (Some row) = append_assoc rows (row ∷ []) (totals_from book (seq + 1) later)
