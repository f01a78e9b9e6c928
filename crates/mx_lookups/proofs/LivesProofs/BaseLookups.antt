-- The row of the last base of a task of an item, where the tables stand for a book. The rows of a book are not listed in the order of the key, but there is at most one of each.
use Rattle.std.proofs.Common.{◌≡◌, ◌∙◌, inl, inr, ◌⊎◌, ℕ, Bool, true, false, ◌&&◌, ◌||◌, cond, List, [], ◌∷◌, map, filter, length, None, Ok, Vec, Result, refl, sym, ap, ap₂, subst}
use Rattle.std.specs.Prelude.{All, IsPermutation, nat_eq}
use Rattle.std.specs.List.{list_any}
use Rattle.std.specs.declared.alloc.Global.{Global}
use Rattle.std.proofs.lemmas.Bool.Decides.{Decides-eqb}
use Rattle.std.proofs.lemmas.List.Elements.{All-filter}
use Rattle.std.proofs.lemmas.List.Sorted.{length_permutation, IsPermutation-trans}
use Rattle.sqlite.specs.Order.{Row}
use Rattle.sqlite.specs.State.{State}
use Rattle.sqlite.specs.Tree.{Trees}
use Rattle.sqlite.proofs.Callers.{one_permutation}
use Rattle.sqlite_keyed.proofs.ListLemmas.{filter-map, filter_same, IsPermutation-filter}
use Rattle.mx_book.specs.commands.Act.{Entry}
use Rattle.mx_book.specs.commands.Same.{same_text}
use Rattle.mx_book.proofs.CommandsProofs.SameLemmas.{text_same}
use Rattle.mx_book.proofs.JudgeLemmas.{both_true}
use Rattle.mx_base.specs.declared.rows.rows.BaseRow.{BaseRow}
use Rattle.mx_registers.specs.kept.Bases.{AreKeyedOnce, base_rows, is_keyed}
use Rattle.mx_registers.proofs.KeptProofs.KeyedLemmas.{base_rows_once}
use Rattle.mx_registers.specs.points.Tables.{bases_2, rows_at}
use Rattle.mx_layout.specs.Contents.{rows_in}
use Rattle.mx_layout.specs.Names.{table_named}
use Rattle.mx_layout.specs.declared.fault.Table.TheVariants as table
use Rattle.mx_layout.specs.declared.fault.TableFault.{TableFault}
use Rattle.mx_layout.specs.kept.Cells.{kept_base2}
use Rattle.mx_layout.proofs.KeptProofs.MovedLawful.{base2_lawful}
use Rattle.mx_table_rows.specs.chosen.Calls.{ReadsFirst}
use Rattle.mx_table_rows.specs.chosen.Choices.{AreFirst}
use Rattle.mx_book_tables.specs.stands.Stands.{HasRowsAt}
use Rattle.mx_book_tables.proofs.StandsProofs.FamilyLemmas.{facts}
use Rattle.mx_book_tables.proofs.StandsProofs.RowLemmas.{rows_once}
use Rattle.mx_lookups.specs.numbers.AnyRows.{Gives, ReadsAny}
use Rattle.mx_lookups.specs.numbers.Given.{is_of}
use Rattle.mx_lookups.specs.numbers.Reads.{Reads, rows_point}
use Rattle.mx_lookups.proofs.NumbersProofs.AnyLemmas.{empty_is, given_in}
use Rattle.mx_lookups.proofs.NumbersProofs.ChosenLemmas.{no_other}
use Rattle.mx_lookups.proofs.NumbersProofs.LookupLemmas.{chosen_read, number_is, text_is}
use Rattle.mx_lookups.proofs.NumbersProofs.TableLemmas.{IsInEach, in_each, now, whole_at}

-- ── at most one row ──

none_left : {X : Type 0} (p : X → Bool) (xs : List X) → list_any p xs ≡ false → filter p xs ≡ []
none_left p [] h = refl
none_left p (x ∷ xs) h = at (p x) h (none_left p xs)
  where
    at : (b : Bool) → b || list_any p xs ≡ false → (list_any p xs ≡ false → filter p xs ≡ []) → cond b (x ∷ filter p xs) (filter p xs) ≡ []
    at true h later = absurd cc
    at false h later = later h

-- there is none of the task of the item, or one
one_keyed : (n : ℕ) (id : List ℕ) (rows : List BaseRow) → AreKeyedOnce rows → (filter (is_keyed n id) rows ≡ []) ⊎ ((row : BaseRow) × (filter (is_keyed n id) rows ≡ row ∷ []))
one_keyed n id [] once = inl refl
one_keyed n id (row ∷ rows) once = at (is_keyed n id row) refl (one_keyed n id rows once.1)
  where
    at : (b : Bool) → is_keyed n id row ≡ b → (filter (is_keyed n id) rows ≡ []) ⊎ ((x : BaseRow) × (filter (is_keyed n id) rows ≡ x ∷ []))
        → (cond b (row ∷ filter (is_keyed n id) rows) (filter (is_keyed n id) rows) ≡ []) ⊎ ((x : BaseRow) × (cond b (row ∷ filter (is_keyed n id) rows) (filter (is_keyed n id) rows) ≡ x ∷ []))
    at false e later = later
    at true e later =
        let parts = both_true (nat_eq row.item n) (same_text row.task id) e in
        let item = (Decides-eqb row.item n).0 parts.0 in
        let task = (text_same row.task id).0 parts.1 in
        let alone : list_any (is_keyed n id) rows ≡ false = ap (λ k. list_any (is_keyed k id) rows) (sym item) ∙ ap (λ (t : List ℕ). list_any (is_keyed row.item t) rows) (sym task) ∙ once.0 in
        inr (row, ap (λ l. row ∷ l) (none_left (is_keyed n id) rows alone))

-- so in another order they are the same
same_order : {X : Type 0} (xs ys : List X) → (xs ≡ []) ⊎ ((x : X) × (xs ≡ x ∷ [])) → IsPermutation xs ys → ys ≡ xs
same_order xs ys (inl none) h = empty_is ys (length_permutation xs ys h ∙ ap length none) ∙ sym none
same_order xs ys (inr one) h = one_permutation one.0 ys (subst (λ l. IsPermutation l ys) one.1 h) ∙ sym one.1

-- ── the table ──

bases_whole : (book : List Entry) → rows_at bases_2 rows_point book ≡ base_rows book
bases_whole = whole_at table.Base2 kept_base2 bases_2 (facts table.Base2) (λ row is. is) now refl

pub bases_in : IsInEach kept_base2
bases_in = in_each table.Base2 kept_base2 bases_2 (facts table.Base2) (λ row is. is) now refl

bases_fit : (trees : Trees) (book : List Entry) → HasRowsAt rows_point trees book → All kept_base2.Fits (base_rows book)
bases_fit trees book has = subst (All kept_base2.Fits) (bases_whole book) (has.fit table.Base2 refl)

bases_given : (trees : Trees) (book : List Entry) → HasRowsAt rows_point trees book → IsPermutation (map kept_base2.as_cells (base_rows book)) (rows_in (table_named kept_base2.name) trees)
bases_given trees book has = subst (λ xs. IsPermutation (map kept_base2.as_cells xs) (rows_in (table_named kept_base2.name) trees)) (bases_whole book) (has.tables table.Base2 refl)

-- ── the look-up ──

of_is : (n : ℕ) (id : List ℕ) (row : BaseRow) → is_of n id (kept_base2.as_cells row) ≡ is_keyed n id row
of_is n id row = ap₂ ◌&&◌ (number_is row.item n) (text_is row.task id)

-- what was chosen is the row of the task of the item, where there is one
pub keyed_is : (n : ℕ) (id : List ℕ) (trees : Trees) (book : List Entry) → HasRowsAt rows_point trees book → (xs : List BaseRow) → AreFirst None kept_base2.order (table_named kept_base2.name) (is_of n id) trees (map kept_base2.as_cells xs) → All kept_base2.Fits xs
    → xs ≡ filter (is_keyed n id) (base_rows book)
keyed_is n id trees book has xs are fits =
    let passes = λ (x : BaseRow). is_of n id (kept_base2.as_cells x) in
    let left = filter passes (base_rows book) in
    let stored = filter (is_of n id) (rows_in (table_named kept_base2.name) trees) in
    let given : IsPermutation (map kept_base2.as_cells left) stored = subst (λ l. IsPermutation l stored) (filter-map (is_of n id) kept_base2.as_cells (base_rows book)) (IsPermutation-filter (is_of n id) _ _ (bases_given trees book has)) in
    let shown : IsPermutation stored (map kept_base2.as_cells xs) = subst (IsPermutation stored) (sym are.first) are.are.all in
    let fit = All-filter passes kept_base2.Fits (base_rows book) (bases_fit trees book has) in
    let same : left ≡ filter (is_keyed n id) (base_rows book) = filter_same passes (is_keyed n id) (of_is n id) (base_rows book) in
    let there : IsPermutation left xs = rows_once kept_base2 base2_lawful left xs fit fits (IsPermutation-trans _ _ _ given shown) in
    same_order (filter (is_keyed n id) (base_rows book)) xs (one_keyed n id (base_rows book) (base_rows_once book)) (subst (λ l. IsPermutation l xs) same there)

pub base_by_key : (n : ℕ) (id : List ℕ) (old new : State) (result : Result (Vec BaseRow Global) TableFault) → ReadsFirst kept_base2 None kept_base2.order (is_of n id) (λ rows. rows.items) old new result → Reads (λ book rows. rows.items ≡ filter (is_keyed n id) (base_rows book)) old new result
base_by_key n id =
    chosen_read kept_base2 base2_lawful bases_in (λ row is. is) (is_of n id) (λ (v : Vec BaseRow Global). v.items) (λ book v. v.items ≡ filter (is_keyed n id) (base_rows book))
    (λ trees book has v are fits. keyed_is n id trees book has v.items are fits)
    (λ trees book has. no_other kept_base2 base2_lawful trees (base_rows book) (bases_fit trees book has) (bases_given trees book has))

-- what the rows of bases that are chosen give
pub bases_give : {V W : Type 0} {chosen : Row → Bool} {items : V → List BaseRow} {old new : State} {rows : V} (of : List BaseRow → W) {w : W} → w ≡ of (items rows) → ReadsFirst kept_base2 None kept_base2.order chosen items old new (Ok rows)
    → ReadsAny (Gives kept_base2 chosen of) old new (Ok w)
bases_give = given_in bases_in
