-- The rows of the accomplishments: in which order those of a task stand, that they decide the table, and which a sector leaves as they are.
use Rattle.std.proofs.Common.{arith, refl, sym, subst, ap, ◌∙◌, ◌≡◌, ℕ, ◌+◌, ◌*◌, ◌^◌, ◌≤◌, length, List, [], ◌∷◌, ◌++◌, Bool, true, false, cond, nat_eq, ◌&&◌, Option, Some, None, append-nil}
use Rattle.std.specs.Prelude.{filter, IsPermutation}
use Rattle.std.specs.List.{list_any, list_all}
use Rattle.std.proofs.lemmas.Bool.Decides.{Decides-eqb}
use Rattle.std.proofs.lemmas.List.Elements.{filter-append}
use Rattle.std.proofs.lemmas.List.Sorted.{IsPermutation-refl, IsPermutation-sym, IsPermutation-trans, IsPermutation-cons, IsPermutation-middle}
use Rattle.mx_base.specs.declared.amounts.Base.{Base}
use Rattle.mx_book.specs.commands.Act.{Act, Entry, Added, Listed, Loaded, Opened, Flown, Fitted, Removed, Released, Deferred, Extended}
use Rattle.mx_book.specs.commands.Same.{same_text, same_item}
use Rattle.mx_book.specs.commands.Shape.{has_shape, act_shape}
use Rattle.mx_book.specs.declared.commands.item.Item.{Item}
use Rattle.mx_book.specs.declared.commands.opening.Opening.{Opening}
use Rattle.mx_book.specs.declared.commands.release.Line.{Line}
use Rattle.mx_book.specs.declared.commands.release.Release.{Release}
use Rattle.mx_book.specs.declared.commands.sector.Sector.{Sector}
use Rattle.mx_book.proofs.CommandsProofs.SameLemmas.{text_same}
use Rattle.mx_book.specs.declared.verdict.Verdict.TheVariants.{New}
use Rattle.mx_book.specs.Base.{Stated, DoneIn, base_of}
use Rattle.mx_book.specs.Book.{IsBook, is_new}
use Rattle.mx_book.specs.Judge.{judge}
use Rattle.mx_book.specs.Life.{is_credited, has_landed_by}
use Rattle.mx_book.specs.Programme.{is_done}
use Rattle.mx_book.proofs.JudgeLemmas.{both_true}
use Rattle.mx_registers.specs.Names.{item_at, or_zero, seq_of_tail, has_item}
use Rattle.mx_base.specs.rows.Rising.{IsRising}
use Rattle.mx_base.specs.rows.Rows.{line_key}
use Rattle.mx_registers.proofs.NewLemmas.{flown_is_known}
use Rattle.mx_registers.proofs.ReleaseLemmas.{lines_few_enough}
use Rattle.mx_base.specs.declared.rows.rows.DoneRow.{DoneRow}
use Rattle.mx_registers.specs.kept.Changes.{clock_of_place, sectors_late}
use Rattle.mx_registers.specs.kept.Spans.{span_rows}
use Rattle.mx_registers.specs.kept.Totals.{numbers_during}
use Rattle.mx_registers.specs.late.Done.{Placed, placed_lines, placed_by, placed_from, placed, done_chain, done_rows_of, is_done_of}
use Rattle.mx_registers.proofs.KeptProofs.NumbersThere.{numbers_are_credited}
use Rattle.mx_registers.proofs.KeptProofs.DoneLemmas.{both}
use Rattle.mx_registers.proofs.LateProofs.DoneLate.{done_rows-more}

-- ── the rows of a task rise by the numbers of their entries, and then by their lines ──

abbrev key : Placed → ℕ
key p = line_key p.seq p.line

lower : {X : Type 0} (of : X → ℕ) (low mid high : ℕ) (xs : List X) → low ≤ mid → IsRising of mid xs high → IsRising of low xs high
lower of low mid high [] h up = omega arith
lower of low mid high (x ∷ xs) h up = (omega (arith, h, up.0), up.1)

higher : {X : Type 0} (of : X → ℕ) (low mid high : ℕ) (xs : List X) → mid ≤ high → IsRising of low xs mid → IsRising of low xs high
higher of low mid high [] h up = omega arith
higher of low mid high (x ∷ xs) h up = (up.0, higher of (of x + 1) mid high xs h up.1)

both_rise : {X : Type 0} (of : X → ℕ) (low mid high : ℕ) (xs ys : List X) → IsRising of low xs mid → IsRising of mid ys high → IsRising of low (xs ++ ys) high
both_rise of low mid high [] ys up next = lower of low mid high ys up next
both_rise of low mid high (x ∷ xs) ys up next = (up.0, both_rise of (of x + 1) mid high xs ys up.1 next)

lines_rise : (k line : ℕ) (item : Item) (id : List ℕ) (r : Release) (lines : List Line) → IsRising key (line_key k line) (placed_lines k line item id r lines) (line_key k (line + length lines))
lines_rise k line item id r [] = omega arith
lines_rise k line item id r (said ∷ lines) =
    let sum : line + 1 + length lines ≡ line + length (said ∷ lines) = omega arith in
    at (is_done item id said) (subst (λ n. IsRising key (line_key k (line + 1)) (placed_lines k (line + 1) item id r lines) (line_key k n)) sum (lines_rise k (line + 1) item id r lines))
  where
    at : (b : Bool) → IsRising key (line_key k (line + 1)) (placed_lines k (line + 1) item id r lines) (line_key k (line + length (said ∷ lines)))
        → IsRising key (line_key k line) ((cond b (record { seq = k; line = line; what = DoneIn k r } ∷ []) []) ++ placed_lines k (line + 1) item id r lines) (line_key k (line + length (said ∷ lines)))
    at true up =
        let next : k * 2 ^ 32 + line + 1 ≡ k * 2 ^ 32 + (line + 1) = omega arith in
        let same : line_key k line + 1 ≡ line_key k (line + 1) = next in
        (omega arith, subst (λ n. IsRising key n (placed_lines k (line + 1) item id r lines) (line_key k (line + length (said ∷ lines)))) (sym same) up)
    at false up = lower key (line_key k line) (line_key k (line + 1)) (line_key k (line + length (said ∷ lines))) (placed_lines k (line + 1) item id r lines) (omega arith) up

opened_rise : (k : ℕ) (o : Opening) (p q : Bool) → IsRising key (line_key k 0) (cond p (cond q (record { seq = k; line = 0; what = Stated o } ∷ []) []) []) (line_key (k + 1) 0)
opened_rise k o true true = (omega arith, omega arith)
opened_rise k o true false = omega arith
opened_rise k o false q = omega arith

by_rise : (doc : List ℕ) (k : ℕ) (item : Item) (id : List ℕ) (act : Act) → has_shape (record { doc = doc; act = act }) ≡ true → IsRising key (line_key k 0) (placed_by k item id act) (line_key (k + 1) 0)
by_rise doc k item id (Opened o) shape = opened_rise k o (same_item o.item item) (same_text o.task id)
by_rise doc k item id (Released r lines) shape =
    let few : length lines ≤ 500 = lines_few_enough doc (Released r lines) shape in
    lower key (line_key k 0) (line_key k 1) (line_key (k + 1) 0) (placed_lines k 1 item id r lines) (omega arith)
    (higher key (line_key k 1) (line_key k (1 + length lines)) (line_key (k + 1) 0) (placed_lines k 1 item id r lines) (omega arith) (lines_rise k 1 item id r lines))
by_rise doc k item id (Added a positions) shape = omega arith
by_rise doc k item id (Listed c) shape = omega arith
by_rise doc k item id (Loaded p tasks) shape = omega arith
by_rise doc k item id (Flown s) shape = omega arith
by_rise doc k item id (Fitted f) shape = omega arith
by_rise doc k item id (Removed r) shape = omega arith
by_rise doc k item id (Deferred d) shape = omega arith
by_rise doc k item id (Extended x) shape = omega arith

from_rise : (k : ℕ) (item : Item) (id : List ℕ) (later : List Entry) → list_all has_shape later ≡ true → IsRising key (line_key k 0) (placed_from k item id later) (line_key (k + length later) 0)
from_rise k item id [] shaped = omega arith
from_rise k item id (x ∷ later) shaped =
    let both = both_true (has_shape x) (list_all has_shape later) shaped in
    let sum : k + 1 + length later ≡ k + length (x ∷ later) = omega arith in
    both_rise key (line_key k 0) (line_key (k + 1) 0) (line_key (k + length (x ∷ later)) 0) (placed_by k item id x.act) (placed_from (k + 1) item id later)
    (by_rise x.doc k item id x.act both.0)
    (subst (λ n. IsRising key (line_key (k + 1) 0) (placed_from (k + 1) item id later) (line_key n 0)) sum (from_rise (k + 1) item id later both.1))

chain_rise : (book : List Entry) (n : ℕ) (item : Item) (id : List ℕ) (before : Option Base) (ps : List Placed) (low high : ℕ) → IsRising key low ps high → IsRising (λ (row : DoneRow). line_key row.seq row.line) low (done_chain book n item id before ps) high
chain_rise book n item id before [] low high up = up
chain_rise book n item id before (p ∷ ps) low high up = (up.0, chain_rise book n item id (Some (base_of book item id before p.what)) ps (key p + 1) high up.1)

-- the rows of a task of an item rise by the numbers of their entries, and then by their lines
pub rows_rise : (book : List Entry) (n : ℕ) (item : Item) (id : List ℕ) → IsBook book → IsRising (λ (row : DoneRow). line_key row.seq row.line) (line_key 1 0) (done_rows_of book n item id) (line_key (length book + 1) 0)
rows_rise book n item id b =
    let same : 1 + length book ≡ length book + 1 = omega arith in
    subst (λ m. IsRising (λ (row : DoneRow). line_key row.seq row.line) (line_key 1 0) (done_rows_of book n item id) (line_key m 0)) same
    (chain_rise book n item id None (placed book item id) (line_key 1 0) (line_key (1 + length book) 0) (from_rise 1 item id book b.shaped))

-- ── rows that agree on each task of each item are the same rows ──

record Split (p : DoneRow → Bool) (x : DoneRow) (zs ys : List DoneRow) : Type 0 where
  pub before : List DoneRow
  pub behind : List DoneRow
  pub whole : ys ≡ before ++ x ∷ behind
  pub none : filter p before ≡ []
  pub rest : filter p behind ≡ zs

split : (p : DoneRow → Bool) (x : DoneRow) (zs ys : List DoneRow) → filter p ys ≡ x ∷ zs → Split p x zs ys
split p x zs [] h = absurd (no_row h)
  where
    no_row : [] ≡ x ∷ zs → ⊥
    no_row e = (cc)
split p x zs (y ∷ ys) h = at (p y) refl h (λ later. split p x zs ys later)
  where
    at : (c : Bool) → p y ≡ c → cond c (y ∷ filter p ys) (filter p ys) ≡ x ∷ zs → (filter p ys ≡ x ∷ zs → Split p x zs ys) → Split p x zs (y ∷ ys)
    at true e h later = let first : y ≡ x = cc in let others : filter p ys ≡ zs = cc in record { before = []; behind = ys; whole = ap (λ r. r ∷ ys) first; none = refl; rest = others }
    at false e h later =
        let s = later h in
        record { before = y ∷ s.before; behind = s.behind; whole = ap (λ l. y ∷ l) s.whole; none = ap (λ c. cond c (y ∷ filter p s.before) (filter p s.before)) e ∙ s.none; rest = s.rest }

pub self : (x : DoneRow) → is_done_of x.item x.task x ≡ true
self x = ap (λ c. c && same_text x.task x.task) ((Decides-eqb x.item x.item).1 refl) ∙ (text_same x.task x.task).1 refl

no_row : (x : DoneRow) (zs : List DoneRow) → [] ≡ x ∷ zs → ⊥
no_row x zs e = (cc)

rows_same : (x : DoneRow) (xs zs : List DoneRow) → x ∷ xs ≡ x ∷ zs → xs ≡ zs
rows_same x xs zs e = cc

-- rows that agree on each task of each item are the same, in some order
pub done_decided : (xs ys : List DoneRow) → ((n : ℕ) (id : List ℕ) → filter (is_done_of n id) xs ≡ filter (is_done_of n id) ys) → IsPermutation xs ys
done_decided [] [] same = IsPermutation-refl []
done_decided [] (y ∷ ys) same =
    absurd (no_row y (filter (is_done_of y.item y.task) ys) (same y.item y.task ∙ ap (λ c. cond c (y ∷ filter (is_done_of y.item y.task) ys) (filter (is_done_of y.item y.task) ys)) (self y)))
done_decided (x ∷ xs) ys same =
    let here : x ∷ filter (is_done_of x.item x.task) xs ≡ filter (is_done_of x.item x.task) ys =
    sym (ap (λ c. cond c (x ∷ filter (is_done_of x.item x.task) xs) (filter (is_done_of x.item x.task) xs)) (self x)) ∙ same x.item x.task in
    let s = split (is_done_of x.item x.task) x (filter (is_done_of x.item x.task) xs) ys (sym here) in
    subst (λ l. IsPermutation (x ∷ xs) l) (sym s.whole)
    (IsPermutation-trans (x ∷ xs) (x ∷ (s.before ++ s.behind)) (s.before ++ x ∷ s.behind)
    (IsPermutation-cons x xs (s.before ++ s.behind) (done_decided xs (s.before ++ s.behind) (rest s)))
    (IsPermutation-sym (s.before ++ x ∷ s.behind) (x ∷ (s.before ++ s.behind)) (IsPermutation-middle s.before x s.behind)))
  where
    rest : (s : Split (is_done_of x.item x.task) x (filter (is_done_of x.item x.task) xs) ys) → (n : ℕ) (id : List ℕ) → filter (is_done_of n id) xs ≡ filter (is_done_of n id) (s.before ++ s.behind)
    rest s n id = at (is_done_of n id x) refl
      where
        at : (c : Bool) → is_done_of n id x ≡ c → filter (is_done_of n id) xs ≡ filter (is_done_of n id) (s.before ++ s.behind)
        at true e =
            let parts = both (nat_eq x.item n) (same_text x.task id) e in
            subst (λ (m : ℕ). filter (is_done_of m id) xs ≡ filter (is_done_of m id) (s.before ++ s.behind)) ((Decides-eqb x.item n).0 parts.0)
            (subst (λ (t : List ℕ). filter (is_done_of x.item t) xs ≡ filter (is_done_of x.item t) (s.before ++ s.behind)) ((text_same x.task id).0 parts.1)
            (sym (filter-append (is_done_of x.item x.task) s.before s.behind ∙ ap (λ l. l ++ filter (is_done_of x.item x.task) s.behind) s.none ∙ s.rest)))
        at false e =
            sym (ap (λ c. cond c (x ∷ filter (is_done_of n id) xs) (filter (is_done_of n id) xs)) e)
            ∙ same n id ∙ ap (filter (is_done_of n id)) s.whole
            ∙ filter-append (is_done_of n id) s.before (x ∷ s.behind)
            ∙ ap (λ c. filter (is_done_of n id) s.before ++ cond c (x ∷ filter (is_done_of n id) s.behind) (filter (is_done_of n id) s.behind)) e
            ∙ sym (filter-append (is_done_of n id) s.before s.behind)

-- ── the rows of what is not credited ──

-- a new sector leaves the rows of an item that it is not credited to
pub uncredited_rows : (book : List Entry) (doc : List ℕ) (s : Sector) (n : ℕ) (item : Item) (id : List ℕ) → IsBook book → judge book (record { doc = doc; act = Flown s }) ≡ New → act_shape (Flown s) ≡ true
    → has_item book item ≡ true → item_at book n ≡ Some item
    → list_any (nat_eq n) (numbers_during (or_zero (seq_of_tail book s.tail)) s.off s.on (span_rows book)) ≡ false
    → done_rows_of (book ++ record { doc = doc; act = Flown s } ∷ []) n item id ≡ done_rows_of book n item id
uncredited_rows book doc s n item id b new shape known number out =
    let none : is_credited book item s ≡ false = sym (numbers_are_credited book s n item b (flown_is_known book doc s (ap is_new new)) known number) ∙ out in
    let late : sectors_late book item (Flown s) ≡ [] = ap (λ c. filter (has_landed_by (Some (clock_of_place book item))) (cond c (s ∷ []) [])) none in
    done_rows-more book doc (Flown s) n item id b new shape late ∙ append-nil (done_rows_of book n item id)
