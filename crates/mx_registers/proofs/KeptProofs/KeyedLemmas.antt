-- The rows of the last bases are a finite map: no two are of one task of one item, and rows that say the same are the same.
use Rattle.std.proofs.Common.{arith, refl, sym, subst, ap, ◌∙◌, ◌≡◌, ℕ, ◌+◌, ◌<◌, length, List, [], ◌∷◌, ◌++◌, Bool, true, false, cond, nat_eq, ◌&&◌, ◌||◌, Option, Some, None}
use Rattle.std.specs.Prelude.{not, filter, find, IsPermutation}
use Rattle.std.specs.List.{list_any, filter_map, flat_map, cons_option}
use Rattle.std.specs.Option.{option_map}
use Rattle.std.proofs.lemmas.Bool.Decides.{Decides-eqb, nat_tests}
use Rattle.std.proofs.lemmas.List.Folds.{list_any-append}
use Rattle.std.proofs.lemmas.List.Sorted.{IsPermutation-refl, IsPermutation-sym, IsPermutation-trans, IsPermutation-cons, IsPermutation-middle}
use Rattle.mx_base.specs.declared.amounts.Base.{Base}
use Rattle.mx_book.specs.commands.Act.{Entry}
use Rattle.mx_book.specs.commands.Same.{same_text}
use Rattle.mx_book.specs.declared.commands.item.Item.{Item}
use Rattle.mx_book.proofs.CommandsProofs.SameLemmas.{text_same}
use Rattle.mx_book.specs.Base.{base}
use Rattle.mx_base.specs.rows.Rising.{IsRising}
use Rattle.mx_base.specs.declared.rows.rows.BaseRow.{BaseRow}
use Rattle.mx_base.specs.rows.Rows.{base_in_row, base_row_with}
use Rattle.mx_registers.specs.kept.Bases.{AreKeyedOnce, base_in, base_row, base_rows, base_rows_of, each_once, is_keyed, tasks_accomplished}
use Rattle.mx_registers.specs.kept.Items.{items}
use Rattle.mx_registers.proofs.KeptProofs.ItemOrder.{items_from}

both : (a b : Bool) → a && b ≡ true → (a ≡ true) × (b ≡ true)
both true true h = (refl, refl)
both true false h = (cc)
both false b h = (cc)

neither : (a b : Bool) → a || b ≡ false → (a ≡ false) × (b ≡ false)
neither true b h = (cc)
neither false b h = (refl, h)

none_of : (a b : Bool) → a ≡ false → b ≡ false → a || b ≡ false
none_of true b h k = (cc)
none_of false b h k = k

-- ── rows without those of one key ──

abbrev pub without : ℕ → List ℕ → List BaseRow → List BaseRow
without n id rows = filter (λ row. not (is_keyed n id row)) rows

abbrev row_of : ℕ → List ℕ → Base → BaseRow
row_of n id b = base_row_with n id b

some_fewer : {X : Type 0} (q p : X → Bool) (xs : List X) → list_any q xs ≡ false → list_any q (filter p xs) ≡ false
some_fewer q p [] h = refl
some_fewer q p (x ∷ xs) h = let parts = neither (q x) (list_any q xs) h in at (p x) parts.0 (some_fewer q p xs parts.1)
  where
    at : (b : Bool) → q x ≡ false → list_any q (filter p xs) ≡ false → list_any q (cond b (x ∷ filter p xs) (filter p xs)) ≡ false
    at true e rest = none_of (q x) (list_any q (filter p xs)) e rest
    at false e rest = rest

pub keyed_fewer : (p : BaseRow → Bool) (xs : List BaseRow) → AreKeyedOnce xs → AreKeyedOnce (filter p xs)
keyed_fewer p [] h = tt
keyed_fewer p (x ∷ xs) h = at (p x) (keyed_fewer p xs h.1)
  where
    at : (b : Bool) → AreKeyedOnce (filter p xs) → AreKeyedOnce (cond b (x ∷ filter p xs) (filter p xs))
    at true rest = (some_fewer (is_keyed x.item x.task) p xs h.0, rest)
    at false rest = rest

none_without : (n : ℕ) (id : List ℕ) (xs : List BaseRow) → list_any (is_keyed n id) xs ≡ false → without n id xs ≡ xs
none_without n id [] h = refl
none_without n id (x ∷ xs) h =
    let parts = neither (is_keyed n id x) (list_any (is_keyed n id) xs) h in
    ap (λ b. cond (not b) (x ∷ without n id xs) (without n id xs)) parts.0 ∙ ap (λ l. x ∷ l) (none_without n id xs parts.1)

none_in : (n : ℕ) (id : List ℕ) (xs : List BaseRow) → list_any (is_keyed n id) xs ≡ false → base_in xs n id ≡ None
none_in n id [] h = refl
none_in n id (x ∷ xs) h =
    let parts = neither (is_keyed n id x) (list_any (is_keyed n id) xs) h in
    ap (λ b. option_map base_in_row (cond b (Some x) (find (is_keyed n id) xs))) parts.0 ∙ none_in n id xs parts.1

pub gone : (n : ℕ) (id : List ℕ) (xs : List BaseRow) → list_any (is_keyed n id) (without n id xs) ≡ false
gone n id [] = refl
gone n id (x ∷ xs) = at (is_keyed n id x) refl (gone n id xs)
  where
    at : (b : Bool) → is_keyed n id x ≡ b → list_any (is_keyed n id) (without n id xs) ≡ false → list_any (is_keyed n id) (cond (not b) (x ∷ without n id xs) (without n id xs)) ≡ false
    at true e rest = rest
    at false e rest = none_of (is_keyed n id x) (list_any (is_keyed n id) (without n id xs)) e rest

pub others_stay : (n m : ℕ) (id other : List ℕ) (xs : List BaseRow) → nat_eq n m && same_text id other ≡ false → base_in (without n id xs) m other ≡ base_in xs m other
others_stay n m id other [] h = refl
others_stay n m id other (x ∷ xs) h = at (is_keyed n id x) refl (others_stay n m id other xs h)
  where
    at : (b : Bool) → is_keyed n id x ≡ b → base_in (without n id xs) m other ≡ base_in xs m other
        → base_in (cond (not b) (x ∷ without n id xs) (without n id xs)) m other ≡ option_map base_in_row (cond (is_keyed m other x) (Some x) (find (is_keyed m other) xs))
    at true e rest =
        let parts = both (nat_eq x.item n) (same_text x.task id) e in
        let apart : is_keyed m other x ≡ false = ap (λ k. nat_eq k m && same_text x.task other) ((Decides-eqb x.item n).0 parts.0) ∙ ap (λ (t : List ℕ). nat_eq n m && same_text t other) ((text_same x.task id).0 parts.1) ∙ h in
        rest ∙ sym (ap (λ b. option_map base_in_row (cond b (Some x) (find (is_keyed m other) xs))) apart)
    at false e rest = pick (is_keyed m other x) rest
      where
        pick : (b : Bool) → base_in (without n id xs) m other ≡ base_in xs m other
            → option_map base_in_row (cond b (Some x) (find (is_keyed m other) (without n id xs))) ≡ option_map base_in_row (cond b (Some x) (find (is_keyed m other) xs))
        pick true rest = refl
        pick false rest = rest

-- the row of a key and those of the others are all rows
taken_out : (n : ℕ) (id : List ℕ) (b : Base) (xs : List BaseRow) → AreKeyedOnce xs → base_in xs n id ≡ Some b → IsPermutation xs (row_of n id b ∷ without n id xs)
taken_out n id b [] k h = (cc)
taken_out n id b (x ∷ xs) k h = at (is_keyed n id x) refl h (taken_out n id b xs k.1)
  where
    at : (c : Bool) → is_keyed n id x ≡ c → option_map base_in_row (cond c (Some x) (find (is_keyed n id) xs)) ≡ Some b → (base_in xs n id ≡ Some b → IsPermutation xs (row_of n id b ∷ without n id xs))
        → IsPermutation (x ∷ xs) (row_of n id b ∷ cond (not c) (x ∷ without n id xs) (without n id xs))
    at true e h rest =
        let parts = both (nat_eq x.item n) (same_text x.task id) e in
        let number = (Decides-eqb x.item n).0 parts.0 in
        let task = (text_same x.task id).0 parts.1 in
        let value : base_in_row x ≡ b = cc in
        let same : x ≡ row_of n id b = ap (λ k. row_of k x.task (base_in_row x)) number ∙ ap (λ (t : List ℕ). row_of n t (base_in_row x)) task ∙ ap (row_of n id) value in
        let alone : list_any (is_keyed n id) xs ≡ false = ap (λ k. list_any (is_keyed k id) xs) (sym number) ∙ ap (λ (t : List ℕ). list_any (is_keyed x.item t) xs) (sym task) ∙ k.0 in
        subst (λ (l : List BaseRow). IsPermutation (x ∷ xs) l) (ap (λ r. r ∷ xs) same ∙ ap (λ l. row_of n id b ∷ l) (sym (none_without n id xs alone))) (IsPermutation-refl (x ∷ xs))
    at false e h rest =
        IsPermutation-trans (x ∷ xs) (x ∷ row_of n id b ∷ without n id xs) (row_of n id b ∷ x ∷ without n id xs)
        (IsPermutation-cons x xs (row_of n id b ∷ without n id xs) (rest h)) (IsPermutation-middle (x ∷ []) (row_of n id b) (without n id xs))

self_keyed : (x : BaseRow) → is_keyed x.item x.task x ≡ true
self_keyed x = ap (λ b. b && same_text x.task x.task) ((Decides-eqb x.item x.item).1 refl) ∙ (text_same x.task x.task).1 refl

-- rows of distinct keys that say the same of each key are the same rows
pub keyed_same : (xs ys : List BaseRow) → AreKeyedOnce xs → AreKeyedOnce ys → ((n : ℕ) (id : List ℕ) → base_in xs n id ≡ base_in ys n id) → IsPermutation xs ys
keyed_same [] [] k l same = IsPermutation-refl []
keyed_same [] (y ∷ ys) k l same =
    let there : base_in (y ∷ ys) y.item y.task ≡ Some (base_in_row y) = ap (λ b. option_map base_in_row (cond b (Some y) (find (is_keyed y.item y.task) ys))) (self_keyed y) in
    let none : None ≡ Some (base_in_row y) = same y.item y.task ∙ there in absurd (no_some (base_in_row y) none)
  where
    no_some : (b : Base) → None ≡ Some b → ⊥
    no_some b e = (cc)
keyed_same (x ∷ xs) ys k l same =
    let here : base_in (x ∷ xs) x.item x.task ≡ Some (base_in_row x) = ap (λ b. option_map base_in_row (cond b (Some x) (find (is_keyed x.item x.task) xs))) (self_keyed x) in
    let out = taken_out x.item x.task (base_in_row x) ys l (sym (same x.item x.task) ∙ here) in
    IsPermutation-trans (x ∷ xs) (x ∷ without x.item x.task ys) ys
    (IsPermutation-cons x xs (without x.item x.task ys) (keyed_same xs (without x.item x.task ys) k.1 (keyed_fewer (λ row. not (is_keyed x.item x.task row)) ys l) rest))
    (IsPermutation-sym ys (x ∷ without x.item x.task ys) out)
  where
    rest : (n : ℕ) (id : List ℕ) → base_in xs n id ≡ base_in (without x.item x.task ys) n id
    rest n id = at (is_keyed n id x) refl (same n id)
      where
        at : (c : Bool) → is_keyed n id x ≡ c → option_map base_in_row (cond c (Some x) (find (is_keyed n id) xs)) ≡ base_in ys n id → base_in xs n id ≡ base_in (without x.item x.task ys) n id
        at true e s =
            let parts = both (nat_eq x.item n) (same_text x.task id) e in
            let number = (Decides-eqb x.item n).0 parts.0 in
            let task = (text_same x.task id).0 parts.1 in
            subst (λ (m : ℕ). base_in xs m id ≡ base_in (without x.item x.task ys) m id) number
            (subst (λ (t : List ℕ). base_in xs x.item t ≡ base_in (without x.item x.task ys) x.item t) task
            (none_in x.item x.task xs k.0 ∙ sym (none_in x.item x.task (without x.item x.task ys) (gone x.item x.task ys))))
        at false e s = s ∙ sym (others_stay x.item n x.task id ys e)

-- ── the rows of a book ──

abbrev pub AreDistinct : List (List ℕ) → Type 0
AreDistinct [] = Unit {0}
AreDistinct (t ∷ ts) = (list_any (λ other. same_text other t) ts ≡ false) × AreDistinct ts

distinct_fewer : (p : List ℕ → Bool) (xs : List (List ℕ)) → AreDistinct xs → AreDistinct (filter p xs)
distinct_fewer p [] h = tt
distinct_fewer p (x ∷ xs) h = at (p x) (distinct_fewer p xs h.1)
  where
    at : (b : Bool) → AreDistinct (filter p xs) → AreDistinct (cond b (x ∷ filter p xs) (filter p xs))
    at true rest = (some_fewer (λ other. same_text other x) p xs h.0, rest)
    at false rest = rest

removed : (x : List ℕ) (xs : List (List ℕ)) → list_any (λ other. same_text other x) (filter (λ other. not (same_text other x)) xs) ≡ false
removed x [] = refl
removed x (y ∷ ys) = at (same_text y x) refl (removed x ys)
  where
    at : (b : Bool) → same_text y x ≡ b → list_any (λ other. same_text other x) (filter (λ other. not (same_text other x)) ys) ≡ false → list_any (λ other. same_text other x) (cond (not b) (y ∷ filter (λ other. not (same_text other x)) ys) (filter (λ other. not (same_text other x)) ys)) ≡ false
    at true e rest = rest
    at false e rest = none_of (same_text y x) (list_any (λ other. same_text other x) (filter (λ other. not (same_text other x)) ys)) e rest

pub once_distinct : (xs : List (List ℕ)) → AreDistinct (each_once xs)
once_distinct [] = tt
once_distinct (x ∷ xs) = (removed x (each_once xs), distinct_fewer (λ other. not (same_text other x)) (each_once xs) (once_distinct xs))

module _ (book : List Entry) where
  -- no row of an item is of a task that is not among these
  no_row : (x : ℕ × Item) (n : ℕ) (id : List ℕ) (ids : List (List ℕ)) → list_any (λ other. same_text other id) ids ≡ false → list_any (is_keyed n id) (filter_map (base_row book x) ids) ≡ false
  no_row x n id [] h = refl
  no_row x n id (t ∷ ts) h = let parts = neither (same_text t id) (list_any (λ other. same_text other id) ts) h in at (base book x.1 t) parts.0 (no_row x n id ts parts.1)
    where
      both_false : (a b : Bool) → b ≡ false → a && b ≡ false
      both_false true b h = h
      both_false false b h = refl

      at : (o : Option Base) → same_text t id ≡ false → list_any (is_keyed n id) (filter_map (base_row book x) ts) ≡ false → list_any (is_keyed n id) (cons_option (option_map (λ b. base_row_with x.0 t b) o) (filter_map (base_row book x) ts)) ≡ false
      at None e rest = rest
      at (Some b) e rest = none_of (nat_eq x.0 n && same_text t id) (list_any (is_keyed n id) (filter_map (base_row book x) ts)) (both_false (nat_eq x.0 n) (same_text t id) e) rest

  one_item : (x : ℕ × Item) (ids : List (List ℕ)) → AreDistinct ids → AreKeyedOnce (filter_map (base_row book x) ids)
  one_item x [] h = tt
  one_item x (t ∷ ts) h = at (base book x.1 t) (one_item x ts h.1)
    where
      at : (o : Option Base) → AreKeyedOnce (filter_map (base_row book x) ts) → AreKeyedOnce (cons_option (option_map (λ b. base_row_with x.0 t b) o) (filter_map (base_row book x) ts))
      at None rest = rest
      at (Some b) rest = (no_row x x.0 t ts h.0, rest)

  -- the rows of later items are of later numbers
  other_item : (x : ℕ × Item) (n : ℕ) (id : List ℕ) (ids : List (List ℕ)) → nat_eq x.0 n ≡ false → list_any (is_keyed n id) (filter_map (base_row book x) ids) ≡ false
  other_item x n id [] h = refl
  other_item x n id (t ∷ ts) h = at (base book x.1 t) (other_item x n id ts h)
    where
      at : (o : Option Base) → list_any (is_keyed n id) (filter_map (base_row book x) ts) ≡ false → list_any (is_keyed n id) (cons_option (option_map (λ b. base_row_with x.0 t b) o) (filter_map (base_row book x) ts)) ≡ false
      at None rest = rest
      at (Some b) rest = none_of (nat_eq x.0 n && same_text t id) (list_any (is_keyed n id) (filter_map (base_row book x) ts)) (ap (λ c. c && same_text t id) h) rest

  not_equal : (n m : ℕ) → n < m → nat_eq m n ≡ false
  not_equal n m h = grind (arith, nat_tests)

  later_items : (n low high : ℕ) (id : List ℕ) (xs : List (ℕ × Item)) → n < low → IsRising (λ (x : ℕ × Item). x.0) low xs high → list_any (is_keyed n id) (flat_map (base_rows_of book) xs) ≡ false
  later_items n low high id [] h up = refl
  later_items n low high id (x ∷ xs) h up =
      list_any-append (is_keyed n id) (base_rows_of book x) (flat_map (base_rows_of book) xs)
      ∙ none_of (list_any (is_keyed n id) (base_rows_of book x)) (list_any (is_keyed n id) (flat_map (base_rows_of book) xs))
      (other_item x n id (tasks_accomplished book x.1) (not_equal n x.0 (omega (arith, up.0)))) (later_items n (x.0 + 1) high id xs (omega (arith, up.0)) up.1)

  joined : (x : ℕ × Item) (ids : List (List ℕ)) (ys : List BaseRow) → AreKeyedOnce (filter_map (base_row book x) ids) → AreKeyedOnce ys → ((id : List ℕ) → list_any (is_keyed x.0 id) ys ≡ false) → AreKeyedOnce (filter_map (base_row book x) ids ++ ys)
  joined x [] ys h k apart = k
  joined x (t ∷ ts) ys h k apart = at (base book x.1 t) h (λ g. joined x ts ys g k apart)
    where
      at : (o : Option Base) → AreKeyedOnce (cons_option (option_map (λ b. base_row_with x.0 t b) o) (filter_map (base_row book x) ts)) → (AreKeyedOnce (filter_map (base_row book x) ts) → AreKeyedOnce (filter_map (base_row book x) ts ++ ys))
          → AreKeyedOnce (cons_option (option_map (λ b. base_row_with x.0 t b) o) (filter_map (base_row book x) ts) ++ ys)
      at None h rest = rest h
      at (Some b) h rest = (list_any-append (is_keyed x.0 t) (filter_map (base_row book x) ts) ys ∙ none_of (list_any (is_keyed x.0 t) (filter_map (base_row book x) ts)) (list_any (is_keyed x.0 t) ys) h.0 (apart t), rest h.1)

  all_items : (low high : ℕ) (xs : List (ℕ × Item)) → IsRising (λ (x : ℕ × Item). x.0) low xs high → AreKeyedOnce (flat_map (base_rows_of book) xs)
  all_items low high [] up = tt
  all_items low high (x ∷ xs) up =
      joined x (tasks_accomplished book x.1) (flat_map (base_rows_of book) xs) (one_item x (tasks_accomplished book x.1) (once_distinct _)) (all_items (x.0 + 1) high xs up.1)
      (λ id. later_items x.0 (x.0 + 1) high id xs (omega arith) up.1)

-- no two rows of the last bases of a book are of one task of one item
pub base_rows_once : (book : List Entry) → AreKeyedOnce (base_rows book)
base_rows_once book = all_items book 1 (0 + 1 + length book) (items book) (items_from [] book)

-- rows of distinct keys that say of each task of each item what those of the book say are the rows of the book
pub bases_decided : (book : List Entry) (rows : List BaseRow) → AreKeyedOnce rows → ((n : ℕ) (id : List ℕ) → base_in rows n id ≡ base_in (base_rows book) n id) → IsPermutation rows (base_rows book)
bases_decided book rows once same = keyed_same rows (base_rows book) once (base_rows_once book) same
