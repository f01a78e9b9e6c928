-- The rows of the accomplishments of a task of an item: how they follow from their values, and what a late sector makes of these.
use Rattle.std.proofs.Common.{arith, refl, sym, subst, ap, ◌∙◌, ◌≡◌, ℕ, ◌+◌, ◌/◌, suc, length, List, [], ◌∷◌, ◌++◌, Bool, true, false, cond, Option, Some, None, append_assoc, length-append}
use Rattle.std.specs.Prelude.{map, filter, slice_get}
use Rattle.std.specs.List.{AllByRecursion}
use Rattle.std.specs.Option.{option_and_then}
use Rattle.mx_base.specs.declared.amounts.Base.{Base}
use Rattle.mx_base.specs.declared.amounts.Limit.{Limit}
use Rattle.mx_book.specs.commands.Act.{Act, Entry, Opened, Released, release_of}
use Rattle.mx_book.specs.commands.Same.{same_text, same_item}
use Rattle.mx_book.specs.declared.commands.item.Item.{Item}
use Rattle.mx_book.specs.declared.commands.opening.Opening.{Opening}
use Rattle.mx_book.specs.declared.commands.release.Line.{Line}
use Rattle.mx_book.specs.declared.commands.release.Release.{Release}
use Rattle.mx_book.specs.due.Due.{due_after, base_done}
use Rattle.mx_book.specs.Register.{birth}
use Rattle.mx_book.specs.Book.{IsBook, entry_at}
use Rattle.mx_book.specs.Life.{life_at, use_or_none}
use Rattle.mx_book.specs.Programme.{is_done}
use Rattle.mx_book.specs.Base.{Accomplishment, Stated, DoneIn, accomplished_by, accomplished_from, accomplishments, base_of, task_then, base_at, value_of}
use Rattle.mx_base.specs.declared.rows.rows.DoneRow.{DoneRow}
use Rattle.mx_book.specs.due.Moved.{lesser_of, row_with}
use Rattle.mx_registers.specs.late.Done.{Placed, placed_lines, placed_by, placed_from, placed, limit_or_none, due_limit, done_row, done_chain, done_rows_of, release_at, due_anew, rebased, valued}
use Rattle.mx_registers.proofs.KeptProofs.KnownLemmas.{all_append}
use Rattle.mx_registers.proofs.KeptProofs.DoneLemmas.{IsKept, all_kept}

-- ── accomplishments in their places ──

-- the entry with the number says the accomplishment: a release where it was done in one, and no release where it was stated
abbrev pub Says : List Entry → ℕ → Accomplishment → Type 0
Says book seq (Stated o) = release_at book seq ≡ None
Says book seq (DoneIn k r) = (seq ≡ k) × (release_at book seq ≡ Some r)

at_seam : (before later : List Entry) (x : Entry) → slice_get (before ++ x ∷ later) (length before) ≡ Some x
at_seam [] later x = refl
at_seam (y ∷ before) later x = at_seam before later x

entry_seam : (before later : List Entry) (x : Entry) (k : ℕ) → k ≡ length before + 1 → entry_at (before ++ x ∷ later) k ≡ Some x
entry_seam before later x k e = let same : k ≡ suc (length before) = omega arith in ap (entry_at (before ++ x ∷ later)) same ∙ at_seam before later x

released_seam : (before later : List Entry) (x : Entry) (k : ℕ) → k ≡ length before + 1 → release_at (before ++ x ∷ later) k ≡ release_of x.act
released_seam before later x k e = ap (option_and_then (λ (y : Entry). release_of y.act)) (entry_seam before later x k e)

lines_said : (book : List Entry) (k line : ℕ) (item : Item) (id : List ℕ) (r : Release) (lines : List Line) → release_at book k ≡ Some r → AllByRecursion (λ (p : Placed). Says book p.seq p.what) (placed_lines k line item id r lines)
lines_said book k line item id r [] h = tt
lines_said book k line item id r (said ∷ lines) h = at (is_done item id said) (lines_said book k (line + 1) item id r lines h)
  where
    at : (b : Bool) → AllByRecursion (λ (p : Placed). Says book p.seq p.what) (placed_lines k (line + 1) item id r lines)
        → AllByRecursion (λ (p : Placed). Says book p.seq p.what) ((cond b (record { seq = k; line = line; what = DoneIn k r } ∷ []) []) ++ placed_lines k (line + 1) item id r lines)
    at true rest = ((refl, h), rest)
    at false rest = rest

opened_said : (book : List Entry) (k : ℕ) (o : Opening) (p q : Bool) → release_at book k ≡ None → AllByRecursion (λ (p : Placed). Says book p.seq p.what) (cond p (cond q (record { seq = k; line = 0; what = Stated o } ∷ []) []) [])
opened_said book k o true true h = (h, tt)
opened_said book k o true false h = tt
opened_said book k o false q h = tt

by_said : (book : List Entry) (k : ℕ) (item : Item) (id : List ℕ) (act : Act) → release_at book k ≡ release_of act → AllByRecursion (λ (p : Placed). Says book p.seq p.what) (placed_by k item id act)
by_said book k item id (Opened o) h = opened_said book k o (same_item o.item item) (same_text o.task id) h
by_said book k item id (Released r lines) h = lines_said book k 1 item id r lines h
by_said book k item id _ h = tt

from_said : (before later : List Entry) (k : ℕ) (item : Item) (id : List ℕ) → k ≡ length before + 1 → AllByRecursion (λ (p : Placed). Says (before ++ later) p.seq p.what) (placed_from k item id later)
from_said before [] k item id e = tt
from_said before (x ∷ later) k item id e =
    let number : k + 1 ≡ length (before ++ x ∷ []) + 1 = omega (arith, length-append before (x ∷ [])) in
    all_append (λ (p : Placed). Says (before ++ x ∷ later) p.seq p.what) (placed_by k item id x.act) (placed_from (k + 1) item id later)
    (by_said (before ++ x ∷ later) k item id x.act (released_seam before later x k e))
    (subst (λ (b : List Entry). AllByRecursion (λ (p : Placed). Says b p.seq p.what) (placed_from (k + 1) item id later)) (append_assoc before (x ∷ []) later) (from_said (before ++ x ∷ []) later (k + 1) item id number))

-- each accomplishment of a book is said by its entry
pub placed_said : (book : List Entry) (item : Item) (id : List ℕ) → AllByRecursion (λ (p : Placed). Says book p.seq p.what) (placed book item id)
placed_said book item id = from_said [] book 1 item id (omega arith)

-- ── what is placed are the accomplishments ──

map-append : {X Y : Type 0} (f : X → Y) (xs ys : List X) → map f (xs ++ ys) ≡ map f xs ++ map f ys
map-append f [] ys = refl
map-append f (x ∷ xs) ys = ap (λ l. f x ∷ l) (map-append f xs ys)

lines_what : (k line : ℕ) (item : Item) (id : List ℕ) (r : Release) (lines : List Line) → map (λ (p : Placed). p.what) (placed_lines k line item id r lines) ≡ map (λ (l : Line). DoneIn k r) (filter (is_done item id) lines)
lines_what k line item id r [] = refl
lines_what k line item id r (said ∷ lines) = at (is_done item id said) (lines_what k (line + 1) item id r lines)
  where
    at : (b : Bool) → map (λ (p : Placed). p.what) (placed_lines k (line + 1) item id r lines) ≡ map (λ (l : Line). DoneIn k r) (filter (is_done item id) lines)
        → map (λ (p : Placed). p.what) ((cond b (record { seq = k; line = line; what = DoneIn k r } ∷ []) []) ++ placed_lines k (line + 1) item id r lines) ≡ map (λ (l : Line). DoneIn k r) (cond b (said ∷ filter (is_done item id) lines) (filter (is_done item id) lines))
    at true rest = ap (λ l. DoneIn k r ∷ l) rest
    at false rest = rest

pub by_what : (k : ℕ) (item : Item) (id : List ℕ) (act : Act) → map (λ (p : Placed). p.what) (placed_by k item id act) ≡ accomplished_by k item id act
by_what k item id (Opened o) = at (same_item o.item item) (same_text o.task id)
  where
    at : (p q : Bool) → map (λ (p : Placed). p.what) (cond p (cond q (record { seq = k; line = 0; what = Stated o } ∷ []) []) []) ≡ cond p (cond q (Stated o ∷ []) []) []
    at true true = refl
    at true false = refl
    at false q = refl
by_what k item id (Released r lines) = lines_what k 1 item id r lines
by_what k item id _ = refl

from_what : (k : ℕ) (item : Item) (id : List ℕ) (book : List Entry) → map (λ (p : Placed). p.what) (placed_from k item id book) ≡ accomplished_from k item id book
from_what k item id [] = refl
from_what k item id (x ∷ book) =
    map-append (λ (p : Placed). p.what) (placed_by k item id x.act) (placed_from (k + 1) item id book)
    ∙ ap (λ l. l ++ map (λ (p : Placed). p.what) (placed_from (k + 1) item id book)) (by_what k item id x.act)
    ∙ ap (λ l. accomplished_by k item id x.act ++ l) (from_what (k + 1) item id book)

pub placed_what : (book : List Entry) (item : Item) (id : List ℕ) → map (λ (p : Placed). p.what) (placed book item id) ≡ accomplishments book item id
placed_what book item id = from_what 1 item id book

pub all_mapped : {X Y : Type 0} (f : X → Y) (P : Y → Type 0) (xs : List X) → AllByRecursion P (map f xs) → AllByRecursion (λ x. P (f x)) xs
all_mapped f P [] h = tt
all_mapped f P (x ∷ xs) h = (h.0, all_mapped f P xs h.1)

-- each accomplishment of a book in its place is kept
pub placed_kept : (book : List Entry) → IsBook book → (item : Item) (id : List ℕ) → AllByRecursion (λ (p : Placed). IsKept book item p.what) (placed book item id)
placed_kept book b item id = all_mapped (λ (p : Placed). p.what) (IsKept book item) (placed book item id) (subst (AllByRecursion (IsKept book item)) (sym (placed_what book item id)) (all_kept book b item id))

-- ── due and base anew ──

-- of the value and the due at an accomplishment comes its base
pub lesser_is_base : (book : List Entry) (item : Item) (id : List ℕ) (before : Option Base) (a : Accomplishment) → lesser_of (value_of book item a) (due_limit book item id before a) ≡ base_of book item id before a
lesser_is_base book item id before (Stated o) = refl
lesser_is_base book item id before (DoneIn k r) = at (option_and_then (due_after before (birth book item)) (task_then book k r id))
  where
    at : (o : Option Limit) → lesser_of (base_at (use_or_none (life_at book item r.moment)) (r.moment / 1440)) (limit_or_none o) ≡ base_done (use_or_none (life_at book item r.moment)) (r.moment / 1440) o
    at None = refl
    at (Some l) = refl

-- the due of a row anew is that of the accomplishment that its entry says
pub anew : (book : List Entry) (item : Item) (id : List ℕ) (before : Option Base) (row : DoneRow) (a : Accomplishment) → Says book row.seq a → due_anew book item id before row ≡ due_limit book item id before a
anew book item id before row (Stated o) h = ap (λ x. limit_or_none (option_and_then (λ (r : Release). option_and_then (due_after before (birth book item)) (task_then book row.seq r id)) x)) h
anew book item id before row (DoneIn k r) h =
    ap (λ x. limit_or_none (option_and_then (λ (r : Release). option_and_then (due_after before (birth book item)) (task_then book row.seq r id)) x)) h.1
    ∙ ap (λ n. limit_or_none (option_and_then (due_after before (birth book item)) (task_then book n r id))) h.0

-- due and base anew of the rows of a book are those that they have
pub rebased_chain : (book : List Entry) (n : ℕ) (item : Item) (id : List ℕ) (before other : Option Base) (ps : List Placed) → AllByRecursion (λ (p : Placed). Says book p.seq p.what) ps
    → rebased book item id before (done_chain book n item id other ps) ≡ done_chain book n item id before ps
rebased_chain book n item id before other [] h = refl
rebased_chain book n item id before other (p ∷ ps) h =
    let row = done_row book n item id other p in
    let due = anew book item id before row p.what h.0 in
    let base : lesser_of row.value (due_anew book item id before row) ≡ base_of book item id before p.what = ap (lesser_of row.value) due ∙ lesser_is_base book item id before p.what in
    ap (λ d. row_with row d ∷ rebased book item id (Some (lesser_of row.value (due_anew book item id before row))) (done_chain book n item id (Some (base_of book item id other p.what)) ps)) due
    ∙ ap (λ x. record { item = n; task = id; seq = p.seq; line = p.line; value = row.value; due = due_limit book item id before p.what; base = x } ∷ rebased book item id (Some (lesser_of row.value (due_anew book item id before row))) (done_chain book n item id (Some (base_of book item id other p.what)) ps)) (lesser_is_base book item id before p.what)
    ∙ ap (λ x. done_row book n item id before p ∷ rebased book item id (Some x) (done_chain book n item id (Some (base_of book item id other p.what)) ps)) base
    ∙ ap (λ l. done_row book n item id before p ∷ l) (rebased_chain book n item id (Some (base_of book item id before p.what)) (Some (base_of book item id other p.what)) ps h.1)

-- they follow from what the rows say of their accomplishments alone
rebased_valued : (book : List Entry) (item : Item) (id : List ℕ) (before : Option Base) (rows : List DoneRow) → rebased book item id before (map valued rows) ≡ rebased book item id before rows
rebased_valued book item id before [] = refl
rebased_valued book item id before (row ∷ rows) =
    ap (λ l. row_with row (due_anew book item id before row) ∷ l) (rebased_valued book item id (Some (lesser_of row.value (due_anew book item id before row))) rows)

-- rows that say of the accomplishments what those of a book do become these, whatever due and base they have
pub rebased_rows : (book : List Entry) (n : ℕ) (item : Item) (id : List ℕ) (rows : List DoneRow) → map valued rows ≡ map valued (done_rows_of book n item id) → rebased book item id None rows ≡ done_rows_of book n item id
rebased_rows book n item id rows h =
    sym (rebased_valued book item id None rows) ∙ ap (rebased book item id None) h ∙ rebased_valued book item id None (done_rows_of book n item id)
    ∙ rebased_chain book n item id None None (placed book item id) (placed_said book item id)
