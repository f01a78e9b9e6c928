-- The accomplishments that a new command adds, as rows of the table.
use Rattle.std.proofs.Common.{refl, sym, ap, ◌∙◌, ◌≡◌, ℕ, ◌+◌, length, List, [], ◌∷◌, ◌++◌, Bool, true, false, cond, ◌&&◌, Some, None}
use Rattle.std.specs.Prelude.{filter, map}
use Rattle.std.proofs.lemmas.Bool.Decides.{Decides-eqb}
use Rattle.mx_base.specs.declared.rows.rows.DoneRow.{DoneRow}
use Rattle.mx_book.specs.commands.Act.{Act, Entry, Opened, Released}
use Rattle.mx_book.specs.commands.Same.{same_text, same_item}
use Rattle.mx_book.specs.commands.Shape.{act_shape}
use Rattle.mx_book.specs.declared.commands.item.Item.{Item}
use Rattle.mx_book.specs.declared.commands.opening.Opening.{Opening}
use Rattle.mx_book.specs.declared.commands.release.Line.{Line}
use Rattle.mx_book.specs.declared.commands.release.Line.TheVariants.{Done, Rectified}
use Rattle.mx_book.specs.declared.commands.release.Release.{Release}
use Rattle.mx_book.specs.declared.verdict.Verdict.TheVariants.{New}
use Rattle.mx_book.specs.Base.{Stated, DoneIn, base}
use Rattle.mx_book.specs.Book.{IsBook, is_new}
use Rattle.mx_book.specs.Judge.{judge}
use Rattle.mx_book.proofs.CommandsProofs.SameLemmas.{text_same}
use Rattle.mx_registers.specs.Names.{has_item, item_at, or_zero, seq_of_item}
use Rattle.mx_registers.specs.kept.Changes.{sectors_late}
use Rattle.mx_registers.specs.late.Done.{Placed, done_by, done_chain, done_rows_of, is_done_of, placed_by, placed_lines, row_done, row_stated, rows_done}
use Rattle.mx_registers.proofs.NewLemmas.{HasLines, opened_is_known, released_is_known}
use Rattle.mx_registers.proofs.KeptProofs.DoneLemmas.{both, item_same}
use Rattle.mx_registers.proofs.KeptProofs.NumberLemmas.{number_other, number_same}
use Rattle.mx_registers.proofs.LateProofs.DoneLate.{done_rows-more}
use Rattle.mx_registers.proofs.LateProofs.DoneReleased.{released_chain}

module _ (book : List Entry) (n : ℕ) (id : List ℕ) where
  abbrev mine : DoneRow → Bool
  mine row = is_done_of n id row

  abbrev number_of : Item → ℕ
  number_of item = or_zero (seq_of_item book item)

  -- ── of an item of the book ──

  module _ (b : IsBook book) (item : Item) (h : item_at book n ≡ Some item) where
    -- a row of the item with a number is the row of the task of this item, where it is one
    same_row : {X : Type 0} (row : ℕ → Item → List ℕ → X) (done : Item) (task : List ℕ) → has_item book done ≡ true → same_item done item && same_text task id ≡ true → row (number_of done) done task ≡ row n item id
    same_row row done task known e =
        let parts = both (same_item done item) (same_text task id) e in
        let number : number_of done ≡ n = (Decides-eqb (number_of done) n).0 (number_same book done item n b known h ∙ parts.0) in
        ap (λ m. row m done task) number ∙ ap (λ i. row n i task) (item_same done item parts.0) ∙ ap (row n item) ((text_same task id).0 parts.1)

    -- the rows that lines certify of the task are those of the places where they do
    pub lines_are : (r : Release) (k : ℕ) (lines : List Line) → HasLines book lines
        → filter mine (rows_done book r k lines) ≡ map (λ (p : Placed). row_done book r n item id p.seq p.line) (placed_lines (length book + 1) k item id r lines)
    lines_are r k [] known = refl
    lines_are r k (Rectified doc ∷ lines) known = lines_are r (k + 1) lines known.1
    lines_are r k (Done done task ∷ lines) known =
        ap (λ c. cond (c && same_text task id) (row_done book r (number_of done) done task (length book + 1) k ∷ filter mine (rows_done book r (k + 1) lines)) (filter mine (rows_done book r (k + 1) lines))) (number_same book done item n b known.0 h)
        ∙ at (same_item done item && same_text task id) refl (lines_are r (k + 1) lines known.1)
      where
        at : (c : Bool) → same_item done item && same_text task id ≡ c
            → filter mine (rows_done book r (k + 1) lines) ≡ map (λ (p : Placed). row_done book r n item id p.seq p.line) (placed_lines (length book + 1) (k + 1) item id r lines)
            → cond c (row_done book r (number_of done) done task (length book + 1) k ∷ filter mine (rows_done book r (k + 1) lines)) (filter mine (rows_done book r (k + 1) lines))
            ≡ map (λ (p : Placed). row_done book r n item id p.seq p.line) (cond c (record { seq = length book + 1; line = k; what = DoneIn (length book + 1) r } ∷ []) [] ++ placed_lines (length book + 1) (k + 1) item id r lines)
        at true e rest =
            ap (λ row. row ∷ filter mine (rows_done book r (k + 1) lines)) (same_row (λ m i t. row_done book r m i t (length book + 1) k) done task known.0 e)
            ∙ ap (λ l. row_done book r n item id (length book + 1) k ∷ l) rest
        at false e rest = rest

    abbrev stated : Opening → ℕ → List ℕ → DoneRow
    stated o m task = record (row_stated book o) { item = m; task = task }

    opened_are : (doc : List ℕ) (o : Opening) → has_item book o.item ≡ true
        → filter mine (row_stated book o ∷ []) ≡ done_chain (book ++ record { doc = doc; act = Opened o } ∷ []) n item id (base book item id) (placed_by (length book + 1) item id (Opened o))
    opened_are doc o known =
        ap (λ c. cond (c && same_text o.task id) (row_stated book o ∷ []) []) (number_same book o.item item n b known h)
        ∙ at (same_item o.item item) (same_text o.task id) refl
      where
        at : (c d : Bool) → same_item o.item item && same_text o.task id ≡ c && d
            → cond (c && d) (row_stated book o ∷ []) [] ≡ done_chain (book ++ record { doc = doc; act = Opened o } ∷ []) n item id (base book item id) (cond c (cond d (record { seq = length book + 1; line = 0; what = Stated o } ∷ []) []) [])
        at true true e = ap (λ row. row ∷ []) (same_row (λ m i t. stated o m t) o.item o.task known e)
        at true false e = refl
        at false d e = refl

    -- the rows that a command adds to those of the task
    pub added_are : (doc : List ℕ) (act : Act) → judge book (record { doc = doc; act = act }) ≡ New → act_shape act ≡ true
        → filter mine (done_by book act) ≡ done_chain (book ++ record { doc = doc; act = act } ∷ []) n item id (base book item id) (placed_by (length book + 1) item id act)
    added_are doc (Opened o) new shape = opened_are doc o (opened_is_known book doc o (ap is_new new))
    added_are doc (Released r lines) new shape = lines_are r 1 lines (released_is_known book doc r lines (ap is_new new)).1 ∙ sym (released_chain book doc r lines n item id b new shape)
    added_are doc _ new shape = refl

  -- ── of a number that no item has ──

  lines_none : (h : item_at book n ≡ None) (r : Release) (k : ℕ) (lines : List Line) → HasLines book lines → filter mine (rows_done book r k lines) ≡ []
  lines_none h r k [] known = refl
  lines_none h r k (Rectified doc ∷ lines) known = lines_none h r (k + 1) lines known.1
  lines_none h r k (Done done task ∷ lines) known =
      ap (λ c. cond (c && same_text task id) (row_done book r (number_of done) done task (length book + 1) k ∷ filter mine (rows_done book r (k + 1) lines)) (filter mine (rows_done book r (k + 1) lines))) (number_other book done n known.0 h)
      ∙ lines_none h r (k + 1) lines known.1

  pub added_none : (doc : List ℕ) (act : Act) → item_at book n ≡ None → judge book (record { doc = doc; act = act }) ≡ New → filter mine (done_by book act) ≡ []
  added_none doc (Opened o) h new = ap (λ c. cond (c && same_text o.task id) (row_stated book o ∷ []) []) (number_other book o.item n (opened_is_known book doc o (ap is_new new)) h)
  added_none doc (Released r lines) h new = lines_none h r 1 lines (released_is_known book doc r lines (ap is_new new)).1
  added_none doc _ h new = refl

-- a new command that gives the item no sector late adds its rows behind those of each task of the item
pub rows_added : (book : List Entry) (doc : List ℕ) (act : Act) (n : ℕ) (item : Item) (id : List ℕ) → IsBook book → judge book (record { doc = doc; act = act }) ≡ New → act_shape act ≡ true → item_at book n ≡ Some item → sectors_late book item act ≡ []
    → done_rows_of (book ++ record { doc = doc; act = act } ∷ []) n item id ≡ done_rows_of book n item id ++ filter (is_done_of n id) (done_by book act)
rows_added book doc act n item id b new shape h late =
    done_rows-more book doc act n item id b new shape late
    ∙ ap (λ l. done_rows_of book n item id ++ l) (sym (added_are book n id b item h doc act new shape))
