-- Lives that a use is added to: all are read, and then each is written in place of what it was.
use Rattle.std.proofs.Common.{◌≡◌, ℕ, pos, Bool, true, false, not, ◌||◌, ◌&&◌, cond, List, [], ◌∷◌, ◌++◌, map, filter, IsPermutation, refl, sym, ap, subst, ◌∙◌, arith}
use Rattle.std.specs.Prelude.{nat_eq, if◌then◌else◌}
use Rattle.std.specs.List.{AllByRecursion, IsDistinct, list_any}
use Rattle.std.proofs.lemmas.Bool.Decides.{nat_tests}
use Rattle.std.proofs.lemmas.List.Sorted.{IsPermutation-trans, IsPermutation-map}
use Rattle.sqlite_keyed.proofs.ListLemmas.{IsPermutation-same}
use Rattle.sqlite.specs.declared.types.Value.TheVariants.{Int}
use Rattle.sqlite.specs.Order.{Row}
use Rattle.sqlite.specs.Collation.TheVariants.{Binary}
use Rattle.sqlite_schema.specs.Rules.{equal}
use Rattle.mx_base.specs.declared.amounts.Use.{Use}
use Rattle.mx_book.specs.commands.Bounds.{are_distinct}
use Rattle.mx_base.specs.declared.rows.rows.TotalRow.{TotalRow}
use Rattle.mx_layout.specs.kept.Cells.{kept_total2}
use Rattle.mx_table_rows.proofs.ChosenProofs.EqualLemmas.{equal_numbers}
use Rattle.mx_table_rows.specs.totals.Calls.{change_where}
use Rattle.mx_table_rows.specs.totals.Single.{IsOnly}
use Rattle.mx_table_rows.specs.totals.Totals.{is_of_item, is_of_any, credited, IsCredited, AreCredited, totals_put}
use Rattle.mx_table_rows.proofs.TotalsProofs.RowLemmas.{passes_only, split_one, filter_either, same_else, map_same, number_is}

or_first : (p q : Bool) → p || q ≡ false → p ≡ false
or_first false q h = refl
or_first true q h = cc

or_second : (p q : Bool) → p || q ≡ false → q ≡ false
or_second false q h = h
or_second true q h = cc

and_first : (p q : Bool) → not p && q ≡ true → p ≡ false
and_first false q h = refl
and_first true q h = cc

and_second : (p q : Bool) → p && q ≡ true → q ≡ true
and_second true q h = h
and_second false q h = cc

none_same : (n : ℕ) (ns : List ℕ) → list_any (nat_eq n) ns ≡ false → AllByRecursion (λ m. nat_eq n m ≡ false) ns
none_same n [] none = tt
none_same n (m ∷ ns) none = (or_first (nat_eq n m) (list_any (nat_eq n) ns) none, none_same n ns (or_second (nat_eq n m) (list_any (nat_eq n) ns) none))

-- among numbers that are distinct none stands twice
pub no_two : (ns : List ℕ) → are_distinct nat_eq ns ≡ true → IsDistinct nat_eq ns
unfolding IsDistinct
no_two [] is = tt
no_two (n ∷ ns) is =
    (none_same n ns (and_first (list_any (nat_eq n) ns) (are_distinct nat_eq ns) is), no_two ns (and_second (not (list_any (nat_eq n) ns)) (are_distinct nat_eq ns) is))

-- the one total of an item has its number
pub item_is : (item : ℕ) (rows : List Row) (x : TotalRow) → IsOnly kept_total2 (is_of_item item) rows x → x.item ≡ item
item_is item rows x only = number_is x.item item (passes_only (is_of_item item) rows (kept_total2.as_cells x) only.only)

other_item : (n m : ℕ) → nat_eq n m ≡ false → equal Binary (Int (pos n)) (Int (pos m)) ≡ false
other_item n m other = equal_numbers n m ∙ other

-- a total is of none of some items
pub none_of : (n : ℕ) (items : List ℕ) → AllByRecursion (λ m. nat_eq n m ≡ false) items → list_any (λ m. equal Binary (Int (pos n)) (Int (pos m))) items ≡ false
none_of n [] other = refl
none_of n (m ∷ items) other = simp (other_item n m other.0) (none_of n items other.1)

module _ (added : Use) where
  -- the totals that are left to write stand when one of another item is written
  module _ (item : ℕ) (x : TotalRow) (same : x.item ≡ item) (rows : List Row) where
    abbrev put : List Row
    put = kept_total2.as_cells x ∷ filter (λ r. not (is_of_item x.item r)) rows

    still_only : (other : ℕ) (was : TotalRow) → nat_eq item other ≡ false → IsOnly kept_total2 (is_of_item other) rows was → IsOnly kept_total2 (is_of_item other) put was
    still_only other was differs only =
        let was_is : was.item ≡ other = item_is other rows was only in
        let first : is_of_item other (kept_total2.as_cells x) ≡ false = other_item x.item other (ap (λ n. nat_eq n other) same ∙ differs) in
        let swapped : nat_eq was.item x.item ≡ false = grind (arith, nat_tests) in
        let stays : not (is_of_item x.item (kept_total2.as_cells was)) ≡ true = ap not (other_item was.item x.item swapped) in
        let test = is_of_item other in
        let left = λ (r : Row). not (is_of_item x.item r) in
        record {
          only = ap (λ b. cond b (kept_total2.as_cells x ∷ filter test (filter left rows)) (filter test (filter left rows))) first
              ∙ filter_either test left rows ∙ ap (filter left) only.only ∙ ap (λ b. cond b (kept_total2.as_cells was ∷ []) []) stays;
          fits = only.fits;
        }

    still_credited : (items : List ℕ) (xs : List TotalRow) → AllByRecursion (λ m. nat_eq item m ≡ false) items → AreCredited added rows items xs → AreCredited added put items xs
    still_credited [] [] differs all = tt
    still_credited [] (y ∷ xs) differs all = absurd all
    still_credited (m ∷ items) [] differs all = absurd all
    still_credited (m ∷ items) (y ∷ xs) differs all =
        (record { was = all.0.was; can = record { only = still_only m all.0.was differs.0 all.0.can.only; life = all.0.can.life }; is = all.0.is }, still_credited items xs differs.1 all.1)

  abbrev credit_any : List ℕ → Row → Row
  credit_any items r = if is_of_any items r then credited added r else r

  -- the totals that are written are those of the items, each with the use added
  pub credited_put : (items : List ℕ) (xs : List TotalRow) (rows : List Row) → IsDistinct nat_eq items → AreCredited added rows items xs → IsPermutation (change_where (is_of_any items) (credited added) rows) (totals_put xs rows)
  unfolding IsDistinct
  credited_put [] [] rows distinct all = IsPermutation-same _ _ (map_same rows)
  credited_put [] (x ∷ xs) rows distinct all = absurd all
  credited_put (item ∷ items) [] rows distinct all = absurd all
  credited_put (item ∷ items) (x ∷ xs) rows distinct all =
      let was = all.0.was in
      let only = all.0.can.only in
      let was_is : was.item ≡ item = item_is item rows was only in
      let same : x.item ≡ item = ap (λ (t : TotalRow). t.item) all.0.is ∙ was_is in
      let rest = λ (n : ℕ). filter (λ r. not (is_of_item n r)) rows in
      let made : credit_any (item ∷ items) (kept_total2.as_cells was) ≡ kept_total2.as_cells x =
      ap (λ b. if b || is_of_any items (kept_total2.as_cells was) then credited added (kept_total2.as_cells was) else kept_total2.as_cells was) (passes_only (is_of_item item) rows (kept_total2.as_cells was) only.only)
      ∙ ap kept_total2.as_cells (sym all.0.is) in
      let others : map (credit_any (item ∷ items)) (rest item) ≡ map (credit_any items) (rest item) =
      same_else (is_of_item item) (credit_any (item ∷ items)) (credit_any items) (λ r fails. ap (λ b. if b || is_of_any items r then credited added r else r) fails) rows in
      let none : is_of_any items (kept_total2.as_cells x) ≡ false = none_of x.item items (subst (λ n. AllByRecursion (λ m. nat_eq n m ≡ false) items) (sym same) distinct.0) in
      let later : kept_total2.as_cells x ∷ map (credit_any items) (rest item) ≡ map (credit_any items) (put item x same rows) =
      ap (λ r. r ∷ map (credit_any items) (rest item)) (ap (λ b. if b then credited added (kept_total2.as_cells x) else kept_total2.as_cells x) (sym none))
      ∙ ap (λ n. credit_any items (kept_total2.as_cells x) ∷ map (credit_any items) (rest n)) (sym same) in
      IsPermutation-trans _ (map (credit_any (item ∷ items)) (kept_total2.as_cells was ∷ rest item)) _
      (IsPermutation-map (credit_any (item ∷ items)) rows (kept_total2.as_cells was ∷ rest item) (split_one (is_of_item item) rows (kept_total2.as_cells was) only.only))
      (subst (λ l. IsPermutation l (totals_put (x ∷ xs) rows)) (sym (ap (λ l. credit_any (item ∷ items) (kept_total2.as_cells was) ∷ l) others ∙ ap (λ r. r ∷ map (credit_any items) (rest item)) made ∙ later))
      (credited_put items xs (put item x same rows) distinct.1 (still_credited item x same rows items xs distinct.0 all.1)))

  -- one total more
  pub credited_more : (rows : List Row) (items : List ℕ) (xs : List TotalRow) (item : ℕ) (x : TotalRow) → AreCredited added rows items xs → IsCredited added rows item x → AreCredited added rows (items ++ item ∷ []) (xs ++ x ∷ [])
  credited_more rows [] [] item x all one = (one, tt)
  credited_more rows [] (y ∷ xs) item x all one = absurd all
  credited_more rows (m ∷ items) [] item x all one = absurd all
  credited_more rows (m ∷ items) (y ∷ xs) item x all one = (all.0, credited_more rows items xs item x all.1 one)
