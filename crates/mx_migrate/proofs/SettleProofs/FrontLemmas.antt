-- What is found at the front of a step, over whatever rows, and in tables that stand for a book.
use Rattle.std.proofs.Common.{◌≡◌, ◌≢◌, inl, inr, ℕ, ◌<◌, pos, Bool, true, false, not, cond, ◌==◌, length, List, [], ◌∷◌, map, filter, take, All, nat_le, slice_get, Option, None, Some, Ok, Err, Result, refl, sym, ap, ap₂, subst, ◌∙◌, arith}
use Rattle.std.specs.Prelude.{Contains, IsErrAnd, IfSome}
use Rattle.std.specs.Option.{option_map}
use Rattle.std.specs.List.{AllByRecursion}
use Rattle.std.specs.List.Sorted.{IsPermutation, IsSorted}
use Rattle.std.proofs.lemmas.Bool.Decides.{nat_tests}
use Rattle.std.proofs.lemmas.Int.{ints}
use Rattle.std.proofs.lemmas.List.{take-map}
use Rattle.std.specs.declared.cmp.Ordering.{Ordering}
use Rattle.std.proofs.lemmas.List.Elements.{All-contains, All-contains_itself, All-filter, All-from_recursion, All-map, All-take, recursion_from_All}
use Rattle.std.proofs.lemmas.List.Sorted.{All-permutation, Contains-permutation, IsPermutation-sym, IsPermutation-trans}
use Rattle.sqlite_keyed.proofs.ListLemmas.{filter-map, IsPermutation-filter}
use Rattle.sqlite_rules.proofs.ListLemmas.{contains_had, has_contained, has_filtered}
use Rattle.sqlite.specs.declared.types.Value.TheVariants.{Int}
use Rattle.sqlite.specs.Order.{Row}
use Rattle.sqlite.specs.State.{State, HasCleanDisk}
use Rattle.sqlite.specs.Table.{Table}
use Rattle.sqlite.specs.Tree.{Trees}
use Rattle.sqlite_sql.specs.declared.ops.CompareOp.TheVariants.{Gt}
use Rattle.sqlite_typed.proofs.TestLemmas.{at_ints}
use Rattle.mx_base.specs.declared.rows.rows.SectorRow.{SectorRow}
use Rattle.mx_base.specs.rows.Rising.{IsRising}
use Rattle.mx_base.proofs.RowsProofs.SortedLemmas.{IsFrom-map, IsRising-map, sorted_once}
use Rattle.mx_book.specs.declared.limits.TheConstants.{MOST_ENTRIES}
use Rattle.mx_registers.proofs.PointsProofs.OneBook.{all_there}
use Rattle.mx_layout.specs.declared.fault.TableFault.{TableFault}
use Rattle.mx_layout.specs.declared.fault.TableFault.TheVariants.{Damaged}
use Rattle.mx_layout.specs.Contents.{rows_in}
use Rattle.mx_layout.specs.Names.{table_named}
use Rattle.mx_layout.specs.Reading.{IsRowOf}
use Rattle.mx_layout.specs.Tables.{sector1}
use Rattle.mx_layout.specs.kept.Cells.{kept_sector1}
use Rattle.mx_layout.specs.kept.Family.{IsReadable, IsReadableAs}
use Rattle.mx_layout.specs.kept.Kept.{Kept}
use Rattle.mx_layout.specs.kept.Meanings.{IsLawful}
use Rattle.mx_table_rows.specs.chosen.Calls.{ReadsFirst}
use Rattle.mx_table_rows.specs.chosen.Choices.{AreFirst, is_above, is_any}
use Rattle.mx_book_tables.proofs.StandsProofs.RowLemmas.{cells_once}
use Rattle.mx_moves.proofs.StepsProofs.PageLemmas.{among, page_damaged, permutation_none, rises_left}
use Rattle.mx_migrate.specs.settle.Choices.{FindsLeft, FindsNext, next_checked}
use Rattle.mx_migrate.specs.settle.Items.{is_next}

-- ── the first of the rows that are chosen ──

-- rows that are of a type are what things of the type are kept as
typed_of : {X : Type 0} (as_cells : X → Row) (Fits : X → Type 0) (rows : List Row) → AllByRecursion (IsRowOf as_cells Fits) rows → (xs : List X) × (map as_cells xs ≡ rows) × AllByRecursion Fits xs
typed_of as_cells Fits [] all = ([], refl, tt)
typed_of as_cells Fits (row ∷ rows) all = let rest = typed_of as_cells Fits rows all.1 in (all.0.0 ∷ rest.0, ap₂ ◌∷◌ (sym all.0.2) rest.1, (all.0.1, rest.2))

module _ {X : Type 0} (k : Kept X) (law : IsLawful k) where
  -- the first so many of the chosen rows of a table whose rows are those of a list that rises by the key
  pub first_chosen_are : (most low high : ℕ) (chosen : Row → Bool) (trees : Trees) (all rows : List X) → AreFirst (Some most) k.order (table_named k.name) chosen trees (map k.as_cells rows)
      → IsPermutation (map k.as_cells all) (rows_in (table_named k.name) trees) → IsRising k.key low all high → All k.Fits all → All k.Fits rows → rows ≡ take most (filter (λ x. chosen (k.as_cells x)) all)
  first_chosen_are most low high chosen trees all rows first given up fits fits_rows =
      let passes = λ (x : X). chosen (k.as_cells x) in
      let left = filter passes all in
      let stored = filter chosen (rows_in (table_named k.name) trees) in
      let fits_left = All-filter passes k.Fits all fits in
      let has : IsPermutation (map k.as_cells left) stored = subst (λ l. IsPermutation l stored) (filter-map chosen k.as_cells all) (IsPermutation-filter chosen _ _ given) in
      let same : IsPermutation (map k.as_cells left) first.those = IsPermutation-trans _ _ _ has first.are.all in
      let good : All (IsRowOf k.as_cells k.Fits) first.those = All-permutation (IsRowOf k.as_cells k.Fits) _ _ same (All-map (IsRowOf k.as_cells k.Fits) k.as_cells left (λ i d low. (_, fits_left i d low, refl))) in
      let typed = typed_of k.as_cells k.Fits first.those (recursion_from_All (IsRowOf k.as_cells k.Fits) first.those good) in
      let slow = law.in_order typed.0 (All-from_recursion k.Fits typed.0 typed.2) (subst (IsSorted k.order) (sym typed.1) first.are.sorted) in
      let rising = IsRising-map k.as_cells k.key k.cells_key law.keyed low high left (rises_left k.key passes low high all up) in
      let those : map k.as_cells left ≡ map k.as_cells typed.0 =
      sorted_once k.cells_key low 0 high (map k.as_cells left) (map k.as_cells typed.0) rising (IsFrom-map k.as_cells k.key k.cells_key law.keyed 0 typed.0 slow) (subst (IsPermutation (map k.as_cells left)) (sym typed.1) same) in
      cells_once k law rows (take most left) fits_rows (All-take k.Fits most left fits_left)
      (first.first ∙ ap (take most) (sym typed.1 ∙ sym those) ∙ take-map k.as_cells most left)

-- one of the first of the chosen rows is one of the table, and is chosen
pub one_of_first : (order : Row → Row → Ordering) (most : ℕ) (t : Table) (chosen : Row → Bool) (trees : Trees) (rows : List Row) → AreFirst (Some most) order t chosen trees rows → (row : Row) → Contains rows row → Contains (rows_in t trees) row × (chosen row ≡ true)
one_of_first order most t chosen trees rows first row there =
    let those = first.those in
    let stored = filter chosen (rows_in t trees) in
    let one = All-contains (Contains those) (take most those) row (All-take (Contains those) most those (All-contains_itself those)) (subst (λ rs. Contains rs row) first.first there) in
    let had : Contains stored row = Contains-permutation those stored row (IsPermutation-sym _ _ first.are.all) one in
    let found = has_filtered chosen (rows_in t trees) row (has_contained stored row had) in
    (contains_had (rows_in t trees) row found.0, found.1)

-- a number is above another, as the statement says it
pub above_number : (n mark : ℕ) → is_above 0 (Int (pos mark)) (Int (pos n) ∷ []) ≡ not (nat_le n mark)
above_number n mark = at_ints false Gt (pos n) (pos mark) ∙ grind (arith, ints, nat_tests)

-- ── the next number of a table ──

-- a number behind the mark that is not next is one that no entry can have
late : (mark n : ℕ) → not (nat_le n mark) ≡ true → is_next mark n ≡ false → MOST_ENTRIES < n
late mark n over off = grind (arith, nat_tests)

module _ {X V : Type 0} (k : Kept X) (mark : ℕ) (numbered : (x : X) → is_above 0 (Int (pos mark)) (k.as_cells x) ≡ not (nat_le (k.key x) mark)) (readable : (row : Row) → IsReadable k.name row → IsReadableAs k row) (items : V → List X) (old new : State) where
  -- the rows behind the mark were read, the first alone
  abbrev pub ReadsNext : Result V TableFault → Type 0
  ReadsNext = ReadsFirst k (Some 1) k.order (is_above 0 (Int (pos mark))) items old new

  -- they were not read
  next_unread : (e : TableFault) → ReadsNext (Err e) → FindsNext k mark old new (Err e)
  next_unread e r = record {
    rows = λ _ _. tt;
    next = tt;
    cause = r.cause;
    damaged = λ clean has is.
        let other = r.damaged clean has (cc) in
        inl (other.2.0, (one_of_first k.order 1 (table_named k.name) (is_above 0 (Int (pos mark))) old.now.trees other.0 other.1 other.2.0 other.2.1).0, λ good. other.2.2 (readable other.2.0 good));
    inside = r.inside;
    within = r.within;
  }

  pub next_stops : (e : TableFault) (result : Result (Option ℕ) TableFault) → IsErrAnd result (λ f. f ≡ e) → ReadsNext (Err e) → FindsNext k mark old new result
  next_stops e (Ok next) is r = absurd is
  next_stops e (Err f) is r = subst (λ x. FindsNext k mark old new (Err x)) (sym is) (next_unread e r)

  module _ (v : V) (r : ReadsNext (Ok v)) where
    first_in : (rows : List X) (n : ℕ) → items v ≡ rows → option_map k.key (slice_get rows 0) ≡ Some n → (x : X) × Contains (map k.as_cells (items v)) (k.as_cells x) × (k.key x ≡ n)
    first_in [] n e is = absurd cc
    first_in (x ∷ rows) n e is = (x, subst (λ l. Contains (map k.as_cells l) (k.as_cells x)) (sym e) (0, omega arith, refl), (cc))

    read_ok : (next : Option ℕ) → option_map k.key (slice_get (items v) 0) ≡ next → IfSome next (λ n. is_next mark n ≡ true) → FindsNext k mark old new (Ok next)
    read_ok next e is = record {
      rows = λ clean has. (items v, r.rows clean has, r.fits, sym e);
      next = is;
      cause = tt;
      damaged = λ _ _ never. absurd cc;
      inside = r.inside;
      within = r.within;
    }

    read_next : (next : Option ℕ) → option_map k.key (slice_get (items v) 0) ≡ next → FindsNext k mark old new (next_checked k.name mark next)
    read_next None e = read_ok None e tt
    read_next (Some n) e = by (is_next mark n) refl
      where
        by : (b : Bool) → is_next mark n ≡ b → FindsNext k mark old new (cond b (Ok (Some n)) (Err (Damaged k.name)))
        by true next = read_ok (Some n) e next
        by false off = record {
          rows = λ _ _. tt;
          next = tt;
          cause = inr (inr refl);
          damaged = λ clean has _.
              let x = first_in (items v) n refl e in
              let found = one_of_first k.order 1 (table_named k.name) (is_above 0 (Int (pos mark))) old.now.trees (map k.as_cells (items v)) (r.rows clean has) (k.as_cells x.0) x.1 in
              inr (x.0, found.0, late mark (k.key x.0) (sym (numbered x.0) ∙ found.1) (ap (is_next mark) x.2 ∙ off));
          inside = r.inside;
          within = r.within;
        }

    pub next_read : FindsNext k mark old new (next_checked k.name mark (option_map k.key (slice_get (items v) 0)))
    next_read = read_next (option_map k.key (slice_get (items v) 0)) refl

-- ── the old table of sectors ──

abbrev pub ReadsPage : {V : Type 0} → (V → List SectorRow) → State → State → Result V TableFault → Type 0
ReadsPage items = ReadsFirst kept_sector1 (Some 64) kept_sector1.order is_any items

pub left_stops : {V : Type 0} (items : V → List SectorRow) (old new : State) (e : TableFault) (result : Result Bool TableFault) → IsErrAnd result (λ f. f ≡ e) → ReadsPage items old new (Err e) → FindsLeft old new result
left_stops items old new e (Ok left) is r = absurd is
left_stops items old new e (Err f) is r = subst (λ x. FindsLeft old new (Err x)) (sym is) (record {
  some = λ _ _. tt;
  none = λ _ _. tt;
  cause = r.cause;
  damaged = λ clean has same. page_damaged 64 kept_sector1.order sector1 old.now.trees (IsReadableAs kept_sector1) (r.damaged clean has (cc));
  inside = r.inside;
  within = r.within;
})

-- nothing is in a table that has no row, and where the first of its rows are none it has none
in_none : {row : Row} (rows : List Row) → Contains rows row → rows ≢ []
in_none {row} rows h none = absurd (omega (arith, (subst (λ l. Contains l row) none h).1))

taken_none : {X : Type 0} (xs : List X) → take 64 xs ≡ [] → xs ≡ []
taken_none [] e = refl
taken_none (x ∷ xs) e = absurd cc

pub none_stored : (t : Table) (trees : Trees) (order : Row → Row → Ordering) (rows : List Row) → AreFirst (Some 64) order t is_any trees rows → rows ≡ [] → rows_in t trees ≡ []
none_stored t trees order rows first none =
    let those : first.those ≡ [] = taken_none first.those (sym first.first ∙ none) in
    let same = subst (λ l. IsPermutation (rows_in t trees) l) those (subst (λ l. IsPermutation l first.those) (all_there (rows_in t trees)) first.are.all) in
    permutation_none (rows_in t trees) (IsPermutation-sym _ _ same)

module _ {V : Type 0} (items : V → List SectorRow) (old new : State) (v : V) (r : ReadsPage items old new (Ok v)) where
  some_there : (rows : List SectorRow) → items v ≡ rows → rows ≢ [] → HasCleanDisk new → kept_sector1.IsIn old.now.schema → rows_in sector1 old.now.trees ≢ []
  some_there [] e some clean has = absurd (some refl)
  some_there (row ∷ rows) e some clean has =
      let first = subst (λ l. AreFirst (Some 64) kept_sector1.order sector1 is_any old.now.trees (map kept_sector1.as_cells l)) e (r.rows clean has) in
      in_none (rows_in sector1 old.now.trees) (among 64 kept_sector1.order sector1 old.now.trees (map kept_sector1.as_cells (row ∷ rows)) first (kept_sector1.as_cells row) (0, omega arith, refl))

  pub left_read : (left : Bool) → (left ≡ true → items v ≢ []) → (left ≡ false → items v ≡ []) → FindsLeft old new (Ok left)
  left_read left some none = record {
    some = λ clean has is. some_there (items v) refl (some is) clean has;
    none = λ clean has is. none_stored sector1 old.now.trees kept_sector1.order (map kept_sector1.as_cells (items v)) (r.rows clean has) (ap (map kept_sector1.as_cells) (none is));
    cause = tt;
    damaged = λ _ _ never. absurd cc;
    inside = r.inside;
    within = r.within;
  }

some_is : (n : ℕ) → 0 < n → (n == 0) ≡ false
some_is n h = grind (arith, nat_tests)

-- whether a vector has a row, by its length
pub left_of : {X : Type 0} (rows : List X) (long : ℕ) (none : Bool) → long ≡ length rows → none ≡ (long == 0) → (not none ≡ true → rows ≢ []) × (not none ≡ false → rows ≡ [])
left_of [] long none is e =
    let all : none ≡ true = e ∙ ap (λ n. n == 0) is in
    ((λ some. absurd (no (sym some ∙ ap not all))), λ _. refl)
  where
    no : true ≡ false → ⊥
    no h = (cc)
left_of (x ∷ rows) long none is e =
    let some : none ≡ false = e ∙ some_is long (omega (arith, is)) in
    ((λ _ same. absurd cc), λ left. absurd (no (sym left ∙ ap not some)))
  where
    no : false ≡ true → ⊥
    no h = (cc)
