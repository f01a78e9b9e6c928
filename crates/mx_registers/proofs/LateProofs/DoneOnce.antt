-- Each accomplishment has one row.
use Rattle.std.proofs.Common.{arith, refl, sym, subst, ap, ◌∙◌, ◌≡◌, ℕ, ◌+◌, ◌<◌, length, List, [], ◌∷◌, Bool, true, false, cond, nat_eq, ◌&&◌, ◌||◌, Option, Some, None}
use Rattle.std.specs.Prelude.{filter}
use Rattle.std.specs.List.{list_any}
use Rattle.std.proofs.lemmas.Bool.Decides.{Decides-eqb}
use Rattle.mx_base.specs.declared.rows.rows.DoneRow.{DoneRow}
use Rattle.mx_base.specs.rows.Rising.{IsRising}
use Rattle.mx_base.specs.rows.Rows.{line_key}
use Rattle.mx_book.specs.commands.Act.{Entry}
use Rattle.mx_book.specs.declared.commands.item.Item.{Item}
use Rattle.mx_book.specs.Book.{IsBook}
use Rattle.mx_registers.specs.Names.{item_at}
use Rattle.mx_registers.specs.late.Done.{AreDoneOnce, done_rows, is_done_at, is_done_of}
use Rattle.mx_registers.proofs.KeptProofs.DoneLemmas.{both}
use Rattle.mx_registers.proofs.LateProofs.DoneBecomes.{no_rows_of}
use Rattle.mx_registers.proofs.LateProofs.DoneOrder.{rows_rise, self}
use Rattle.mx_registers.proofs.LateProofs.DoneTable.{rows_of_task}

abbrev place_of : DoneRow → ℕ
place_of row = line_key row.seq row.line

-- a row whose place is not below another is not at it
elsewhere : (row : DoneRow) (seq line : ℕ) → line_key seq line < place_of row → nat_eq row.seq seq && nat_eq row.line line ≡ false
elsewhere row seq line low = at (nat_eq row.seq seq && nat_eq row.line line) refl
  where
    at : (c : Bool) → nat_eq row.seq seq && nat_eq row.line line ≡ c → c ≡ false
    at false e = refl
    at true e =
        let parts = both (nat_eq row.seq seq) (nat_eq row.line line) e in
        let same_seq : row.seq ≡ seq = (Decides-eqb row.seq seq).0 parts.0 in
        let same_line : row.line ≡ line = (Decides-eqb row.line line).0 parts.1 in
        let same : line_key seq line ≡ place_of row = subst (λ n. line_key n line ≡ place_of row) same_seq (ap (line_key row.seq) (subst (λ n. n ≡ row.line) same_line refl)) in
        absurd (below same low)
      where
        below : line_key seq line ≡ place_of row → line_key seq line < place_of row → ⊥
        below same low = omega arith

-- where the rows of a task rise from above a place on, none is at it
absent : (n : ℕ) (id : List ℕ) (seq line low high : ℕ) (rows : List DoneRow) → IsRising place_of low (filter (is_done_of n id) rows) high → line_key seq line < low → list_any (is_done_at n id seq line) rows ≡ false
absent n id seq line low high [] up below = refl
absent n id seq line low high (row ∷ rows) up below = at (is_done_of n id row) refl up (λ from later over. absent n id seq line from high rows later over)
  where
    at : (c : Bool) → is_done_of n id row ≡ c → IsRising place_of low (cond c (row ∷ filter (is_done_of n id) rows) (filter (is_done_of n id) rows)) high → ((from : ℕ) → IsRising place_of from (filter (is_done_of n id) rows) high → line_key seq line < from → list_any (is_done_at n id seq line) rows ≡ false) → is_done_of n id row && (nat_eq row.seq seq && nat_eq row.line line) || list_any (is_done_at n id seq line) rows ≡ false
    at false e up rest = ap (λ c. c && (nat_eq row.seq seq && nat_eq row.line line) || list_any (is_done_at n id seq line) rows) e ∙ rest low up below
    at true e up rest =
        ap (λ c. c && (nat_eq row.seq seq && nat_eq row.line line) || list_any (is_done_at n id seq line) rows) e
        ∙ ap (λ c. c || list_any (is_done_at n id seq line) rows) (elsewhere row seq line (omega (arith, up.0)))
        ∙ rest (place_of row + 1) up.1 (omega (arith, up.0))

-- the rows of a task of the item with a number rise
record Rises (rows : List DoneRow) (n : ℕ) (id : List ℕ) : Type 0 where
  low : ℕ
  high : ℕ
  up : IsRising place_of low (filter (is_done_of n id) rows) high

later_rise : (row : DoneRow) (rows : List DoneRow) (n : ℕ) (id : List ℕ) → Rises (row ∷ rows) n id → Rises rows n id
later_rise row rows n id h = at (is_done_of n id row) h.up
  where
    at : (c : Bool) → IsRising place_of h.low (cond c (row ∷ filter (is_done_of n id) rows) (filter (is_done_of n id) rows)) h.high → Rises rows n id
    at true up = record { low = place_of row + 1; high = h.high; up = up.1 }
    at false up = record { low = h.low; high = h.high; up = up }

once_where_rising : (rows : List DoneRow) → ((n : ℕ) (id : List ℕ) → Rises rows n id) → AreDoneOnce rows
once_where_rising [] h = tt
once_where_rising (row ∷ rows) h = (alone, once_where_rising rows (λ n id. later_rise row rows n id (h n id)))
  where
    own : Rises (row ∷ rows) row.item row.task
    own = h row.item row.task

    alone : list_any (is_done_at row.item row.task row.seq row.line) rows ≡ false
    alone =
        let up : IsRising place_of own.low (row ∷ filter (is_done_of row.item row.task) rows) own.high =
        subst (λ (c : Bool). IsRising place_of own.low (cond c (row ∷ filter (is_done_of row.item row.task) rows) (filter (is_done_of row.item row.task) rows)) own.high) (self row) own.up in
        absent row.item row.task row.seq row.line (place_of row + 1) own.high rows up.1 (omega arith)

pub done_once : (book : List Entry) → IsBook book → AreDoneOnce (done_rows book)
done_once book b = once_where_rising (done_rows book) (λ n id. at n id (item_at book n) refl)
  where
    at : (n : ℕ) (id : List ℕ) (o : Option Item) → item_at book n ≡ o → Rises (done_rows book) n id
    at n id (Some item) h = record { low = line_key 1 0; high = line_key (length book + 1) 0; up = subst (λ (l : List DoneRow). IsRising place_of (line_key 1 0) l (line_key (length book + 1) 0)) (sym (rows_of_task book n item id b h)) (rows_rise book n item id b) }
    at n id None h = record { low = 0; high = 0; up = subst (λ (l : List DoneRow). IsRising place_of 0 l 0) (sym (no_rows_of book n id b h)) (omega arith) }
