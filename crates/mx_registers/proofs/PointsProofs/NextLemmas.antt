-- The thing that a step moves next: no row has a number between the mark and its.
use Rattle.std.proofs.Common.{arith, refl, ◌≡◌, ◌⊎◌, inl, inr, ℕ, ◌+◌, ◌≤◌, ◌<◌, length, List, [], ◌∷◌, ◌++◌, Bool, true, false, cond, nat_le, Option, Some, None, take}
use Rattle.std.specs.Prelude.{not, map, filter}
use Rattle.std.specs.List.{filter_map, flat_map, cons_option, AllByRecursion}
use Rattle.std.specs.Option.{option_map}
use Rattle.std.proofs.lemmas.Bool.Decides.{nat_tests}
use Rattle.mx_base.specs.declared.amounts.Base.{Base}
use Rattle.mx_book.specs.commands.Act.{Entry}
use Rattle.mx_book.specs.declared.commands.item.Item.{Item}
use Rattle.mx_book.specs.Base.{base, base_of}
use Rattle.mx_book.specs.Programme.{last_of}
use Rattle.mx_base.specs.rows.Rising.{IsRising}
use Rattle.mx_base.specs.declared.rows.rows.BaseRow.{BaseRow}
use Rattle.mx_base.specs.declared.rows.rows.DoneRow.{DoneRow}
use Rattle.mx_base.specs.rows.Rows.{base_row_with}
use Rattle.mx_registers.specs.kept.Bases.{base_row, base_rows, base_rows_of, tasks_accomplished}
use Rattle.mx_registers.specs.kept.Items.{items}
use Rattle.mx_registers.specs.late.Done.{Placed, done_chain, done_rows, done_rows_at, done_rows_of, placed}
use Rattle.mx_registers.specs.points.Moves.{IsNext}
use Rattle.mx_registers.specs.points.Points.{moving, moving_from, next_mark}
use Rattle.mx_registers.proofs.KeptProofs.ItemOrder.{items_from}

abbrev pub self : ℕ → ℕ
self n = n

-- no number is between the mark and the next
abbrev pub Apart : ℕ → ℕ → ℕ → Type 0
Apart mark next n = (n ≤ mark) ⊎ (next ≤ n)

above_all : (mark next low high : ℕ) (ns : List ℕ) → next ≤ low → IsRising self low ns high → AllByRecursion (Apart mark next) ns
above_all mark next low high [] h up = tt
above_all mark next low high (n ∷ ns) h up = (inr (omega (arith, up.0)), above_all mark next (n + 1) high ns (omega (arith, up.0)) up.1)

abbrev next_of : ℕ → List ℕ → Option ℕ
next_of mark ns = last_of (take 1 (filter (λ n. not (nat_le n mark)) ns))

-- the first number above the mark is the least
pub next_is_least : (mark next low high : ℕ) (ns : List ℕ) → IsRising self low ns high → next_of mark ns ≡ Some next → (mark < next) × AllByRecursion (Apart mark next) ns
next_is_least mark next low high [] up h = (cc)
next_is_least mark next low high (n ∷ ns) up h = at (nat_le n mark) refl h (next_is_least mark next (n + 1) high ns up.1)
  where
    at : (b : Bool) → nat_le n mark ≡ b → last_of (take 1 (cond (not b) (n ∷ filter (λ n. not (nat_le n mark)) ns) (filter (λ n. not (nat_le n mark)) ns))) ≡ Some next
        → (next_of mark ns ≡ Some next → (mark < next) × AllByRecursion (Apart mark next) ns) → (mark < next) × (Apart mark next n × AllByRecursion (Apart mark next) ns)
    at true e h rest = let later = rest h in let by : n ≤ mark = grind (arith, nat_tests) in (later.0, (inl by, later.1))
    at false e h rest =
        let same : n ≡ next = cc in
        let over : mark < n = grind (arith, nat_tests) in
        (omega arith, (inr (omega arith), above_all mark next (n + 1) high ns (omega arith) up.1))

-- the numbers of rows that rise are rising numbers
pub numbers_rise : {Row : Type 0} (number : Row → ℕ) (low high : ℕ) (xs : List Row) → IsRising number low xs high → IsRising self low (map number xs) high
numbers_rise number low high [] up = up
numbers_rise number low high (x ∷ xs) up = (up.0, numbers_rise number (number x + 1) high xs up.1)

-- ── bases ──

all_join : {X : Type 0} (P : X → Type 0) (xs ys : List X) → AllByRecursion P xs → AllByRecursion P ys → AllByRecursion P (xs ++ ys)
all_join P [] ys h k = k
all_join P (x ∷ xs) ys h k = (h.0, all_join P xs ys h.1 k)

rows_of_one : (book : List Entry) (P : ℕ → Type 0) (x : ℕ × Item) → P x.0 → (ids : List (List ℕ)) → AllByRecursion (λ (row : BaseRow). P row.item) (filter_map (base_row book x) ids)
rows_of_one book P x h [] = tt
rows_of_one book P x h (id ∷ ids) = at (base book x.1 id) (rows_of_one book P x h ids)
  where
    at : (o : Option Base) → AllByRecursion (λ (row : BaseRow). P row.item) (filter_map (base_row book x) ids) → AllByRecursion (λ (row : BaseRow). P row.item) (cons_option (option_map (λ b. base_row_with x.0 id b) o) (filter_map (base_row book x) ids))
    at None rest = rest
    at (Some b) rest = (h, rest)

pub rows_of_all : (book : List Entry) (P : ℕ → Type 0) (xs : List (ℕ × Item)) → AllByRecursion P (map (λ (x : ℕ × Item). x.0) xs) → AllByRecursion (λ (row : BaseRow). P row.item) (flat_map (base_rows_of book) xs)
rows_of_all book P [] h = tt
rows_of_all book P (x ∷ xs) h = all_join (λ (row : BaseRow). P row.item) (base_rows_of book x) (flat_map (base_rows_of book) xs) (rows_of_one book P x h.0 (tasks_accomplished book x.1)) (rows_of_all book P xs h.1)

-- ── accomplishments ──

chain_of_one : (book : List Entry) (P : ℕ → Type 0) (n : ℕ) (item : Item) (id : List ℕ) (before : Option Base) → P n → (ps : List Placed) → AllByRecursion (λ (row : DoneRow). P row.item) (done_chain book n item id before ps)
chain_of_one book P n item id before h [] = tt
chain_of_one book P n item id before h (p ∷ more) = (h, chain_of_one book P n item id (Some (base_of book item id before p.what)) h more)

done_of_one : (book : List Entry) (P : ℕ → Type 0) (x : ℕ × Item) → P x.0 → (ids : List (List ℕ)) → AllByRecursion (λ (row : DoneRow). P row.item) (flat_map (done_rows_of book x.0 x.1) ids)
done_of_one book P x h [] = tt
done_of_one book P x h (id ∷ ids) = all_join (λ (row : DoneRow). P row.item) (done_rows_of book x.0 x.1 id) (flat_map (done_rows_of book x.0 x.1) ids) (chain_of_one book P x.0 x.1 id None h (placed book x.1 id)) (done_of_one book P x h ids)

pub done_of_all : (book : List Entry) (P : ℕ → Type 0) (xs : List (ℕ × Item)) → AllByRecursion P (map (λ (x : ℕ × Item). x.0) xs) → AllByRecursion (λ (row : DoneRow). P row.item) (flat_map (done_rows_at book) xs)
done_of_all book P [] h = tt
done_of_all book P (x ∷ xs) h = all_join (λ (row : DoneRow). P row.item) (done_rows_at book x) (flat_map (done_rows_at book) xs) (done_of_one book P x h.0 (tasks_accomplished book x.1)) (done_of_all book P xs h.1)

-- ── the next item ──

-- no item is between the mark and the next
item_next : (book : List Entry) (mark item : ℕ) → next_of mark (map (λ (x : ℕ × Item). x.0) (items book)) ≡ Some item → (mark < item) × AllByRecursion (Apart mark item) (map (λ (x : ℕ × Item). x.0) (items book))
item_next book mark item h =
    next_is_least mark item 1 (0 + 1 + length book) (map (λ (x : ℕ × Item). x.0) (items book)) (numbers_rise (λ (x : ℕ × Item). x.0) 1 (0 + 1 + length book) (items book) (items_from [] book)) h

-- so the item whose bases are written next is the next for their rows
pub bases_next : (book : List Entry) (mark item : ℕ) → next_mark (moving 4 mark) book ≡ Some item → IsNext (λ (row : BaseRow). row.item) mark item (base_rows book)
bases_next book mark item h = let next = item_next book mark item h in (next.0, rows_of_all book (Apart mark item) (items book) next.1)

-- and that whose accomplishments are, for their rows and for those of last bases
pub done_next : (book : List Entry) (mark item : ℕ) → next_mark (moving_from 2 2 mark) book ≡ Some item → IsNext (λ (row : DoneRow). row.item) mark item (done_rows book)
done_next book mark item h = let next = item_next book mark item h in (next.0, done_of_all book (Apart mark item) (items book) next.1)

pub bases_next_left : (book : List Entry) (mark item : ℕ) → next_mark (moving_from 2 2 mark) book ≡ Some item → IsNext (λ (row : BaseRow). row.item) mark item (base_rows book)
bases_next_left book mark item h = let next = item_next book mark item h in (next.0, rows_of_all book (Apart mark item) (items book) next.1)
