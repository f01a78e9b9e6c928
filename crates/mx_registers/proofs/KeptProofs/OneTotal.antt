-- An item of a book has one total.
use Rattle.std.proofs.Common.{arith, refl, sym, ap, ◌∙◌, ◌≡◌, ℕ, ◌+◌, ◌<◌, length, List, [], ◌∷◌, Bool, true, false, cond, nat_eq, ◌||◌, Some}
use Rattle.std.specs.Prelude.{filter, map}
use Rattle.std.specs.List.{list_any, AllByRecursion}
use Rattle.std.proofs.lemmas.Bool.Decides.{Decides-eqb, nat_tests}
use Rattle.mx_book.specs.commands.Act.{Entry, Released}
use Rattle.mx_book.specs.declared.commands.item.Item.{Item}
use Rattle.mx_book.specs.declared.commands.release.Line.{Line}
use Rattle.mx_book.specs.declared.commands.release.Release.{Release}
use Rattle.mx_book.specs.declared.verdict.Verdict.TheVariants.{New}
use Rattle.mx_book.specs.Book.{IsBook, is_new}
use Rattle.mx_book.specs.Judge.{judge, item_at as item_of_place}
use Rattle.mx_base.specs.rows.Rising.{IsRising}
use Rattle.mx_registers.specs.Names.{item_at}
use Rattle.mx_registers.proofs.NameLemmas.{item_known}
use Rattle.mx_registers.proofs.NewLemmas.{released_is_known}
use Rattle.mx_base.specs.declared.rows.rows.TotalRow.{TotalRow}
use Rattle.mx_registers.specs.kept.Items.{items, number_of_place}
use Rattle.mx_registers.specs.kept.Totals.{total_in, total_row, total_rows}
use Rattle.mx_registers.proofs.KeptProofs.ItemNumbers.{items_numbered}
use Rattle.mx_registers.proofs.KeptProofs.ItemOrder.{total_rows-rising}
use Rattle.mx_registers.proofs.KeptProofs.BaseRows.{number_listed}

as_rows : (book : List Entry) (n : ℕ) (xs : List (ℕ × Item)) → list_any (λ (row : TotalRow). nat_eq row.item n) (map (total_row book) xs) ≡ list_any (λ (x : ℕ × Item). nat_eq x.0 n) xs
as_rows book n [] = refl
as_rows book n (x ∷ xs) = ap (λ b. nat_eq x.0 n || b) (as_rows book n xs)

-- ── rows that rise ──

not_equal : (n m : ℕ) → n < m → nat_eq m n ≡ false
not_equal n m h = grind (arith, nat_tests)

none_later : (n low high : ℕ) (xs : List TotalRow) → IsRising (λ (row : TotalRow). row.item) low xs high → n < low → filter (λ (row : TotalRow). nat_eq row.item n) xs ≡ []
none_later n low high [] up less = refl
none_later n low high (x ∷ xs) up less =
    ap (λ b. cond b (x ∷ filter (λ (row : TotalRow). nat_eq row.item n) xs) (filter (λ (row : TotalRow). nat_eq row.item n) xs)) (not_equal n x.item (omega (arith, up.0)))
    ∙ none_later n (x.item + 1) high xs up.1 (omega (arith, up.0))

one_row : (n low high : ℕ) (xs : List TotalRow) → IsRising (λ (row : TotalRow). row.item) low xs high → list_any (λ (row : TotalRow). nat_eq row.item n) xs ≡ true → length (filter (λ (row : TotalRow). nat_eq row.item n) xs) ≡ 1
one_row n low high [] up h = (cc)
one_row n low high (x ∷ xs) up h = at (nat_eq x.item n) refl h (λ rest. one_row n (x.item + 1) high xs up.1 rest)
  where
    at : (b : Bool) → nat_eq x.item n ≡ b → b || list_any (λ (row : TotalRow). nat_eq row.item n) xs ≡ true → (list_any (λ (row : TotalRow). nat_eq row.item n) xs ≡ true → length (filter (λ (row : TotalRow). nat_eq row.item n) xs) ≡ 1)
        → length (cond b (x ∷ filter (λ (row : TotalRow). nat_eq row.item n) xs) (filter (λ (row : TotalRow). nat_eq row.item n) xs)) ≡ 1
    at true e h rest =
        let same = (Decides-eqb x.item n).0 e in
        let one : length (x ∷ []) ≡ 1 = omega arith in
        ap (λ l. length (x ∷ l)) (none_later n (x.item + 1) high xs up.1 (omega arith)) ∙ one
    at false e h rest = rest h

-- the place of a new release has one total
pub place_total : (book : List Entry) (doc : List ℕ) (r : Release) (lines : List Line) → IsBook book → judge book (record { doc = doc; act = Released r lines }) ≡ New
    → length (filter (λ (row : TotalRow). nat_eq row.item (number_of_place book r.place)) (total_rows book)) ≡ 1
place_total book doc r lines b new =
    let n = number_of_place book r.place in
    let there = item_known book (item_of_place r.place) (released_is_known book doc r lines (ap is_new new)).0 in
    one_row n 1 _ (total_rows book) (total_rows-rising book) (as_rows book n (items book) ∙ number_listed book n (item_of_place r.place) there)

-- ── the total of an item ──

found_in : (book : List Entry) (n : ℕ) (item : Item) → item_at book n ≡ Some item → (xs : List (ℕ × Item)) → AllByRecursion (λ (x : ℕ × Item). item_at book x.0 ≡ Some x.1) xs → list_any (λ (x : ℕ × Item). nat_eq x.0 n) xs ≡ true
    → total_in (map (total_row book) xs) n ≡ Some (total_row book (n, item))
found_in book n item h [] numbered there = (cc)
found_in book n item h (x ∷ xs) numbered there = at (nat_eq x.0 n) refl there (found_in book n item h xs numbered.1)
  where
    at : (b : Bool) → nat_eq x.0 n ≡ b → b || list_any (λ (x : ℕ × Item). nat_eq x.0 n) xs ≡ true
        → (list_any (λ (x : ℕ × Item). nat_eq x.0 n) xs ≡ true → total_in (map (total_row book) xs) n ≡ Some (total_row book (n, item)))
        → cond b (Some (total_row book x)) (total_in (map (total_row book) xs) n) ≡ Some (total_row book (n, item))
    at true e t rest =
        let number = (Decides-eqb x.0 n).0 e in
        let one : Some x.1 ≡ Some item = sym numbered.0 ∙ ap (item_at book) number ∙ h in
        let same : x.1 ≡ item = cc in
        ap (λ (k : ℕ). Some (total_row book (k, x.1))) number ∙ ap (λ (i : Item). Some (total_row book (n, i))) same
    at false e t rest = rest t

-- the row of the item with a number is its total
pub total_found : (book : List Entry) (number : ℕ) (item : Item) → IsBook book → item_at book number ≡ Some item → total_in (total_rows book) number ≡ Some (total_row book (number, item))
total_found book number item b h = found_in book number item h (items book) (items_numbered book b) (number_listed book number item h)
