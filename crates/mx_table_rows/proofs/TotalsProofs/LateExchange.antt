-- Accomplishments that are exchanged: those that are written come in place of exactly the rows that are behind the landing.
use Rattle.std.proofs.Common.{◌≡◌, ℕ, pos, Bool, true, false, ◌&&◌, ◌||◌, not, List, [], ◌∷◌, ◌++◌, map, filter, IsPermutation, refl, sym, ap, ap₂, subst, subst₂, ◌∙◌, arith}
use Rattle.std.specs.Prelude.{nat_eq}
use Rattle.std.specs.List.{AllByRecursion, IsDistinct}
use Rattle.std.proofs.lemmas.Bool.Decides.{nat_tests}
use Rattle.std.proofs.lemmas.List.Sorted.{IsPermutation-sym, IsPermutation-trans, IsPermutation-append_right, IsPermutation-filter_both, Contains-permutation}
use Rattle.sqlite_keyed.proofs.ListLemmas.{map-map, filter-map, IsPermutation-same, IsPermutation-filter}
use Rattle.sqlite_rules.proofs.ListLemmas.{some_has, some_from, has_left, has_right, has_kept, has_filtered, has_contained, contains_had}
use Rattle.sqlite_rules.proofs.ProbeLemmas.{mapped_has}
use Rattle.sqlite_rules.specs.Lists.{Has}
use Rattle.sqlite.specs.declared.types.Value.TheVariants.{Int, Text}
use Rattle.sqlite.specs.Order.{Row}
use Rattle.sqlite.specs.Tree.{Trees}
use Rattle.sqlite.specs.Collation.TheVariants.{Binary}
use Rattle.sqlite_schema.specs.Rules.{equal}
use Rattle.sqlite_typed.proofs.TestLemmas.{bytes_eq_refl}
use Rattle.mx_base.specs.declared.amounts.Use.{Use}
use Rattle.mx_base.specs.declared.rows.rows.DoneRow.{DoneRow}
use Rattle.mx_layout.specs.Contents.{rows_in}
use Rattle.mx_layout.specs.Tables.{crs, done3}
use Rattle.mx_layout.specs.kept.Cells.{kept_done3}
use Rattle.mx_table_rows.specs.chosen.Choices.{has_value}
use Rattle.mx_table_rows.proofs.ChosenProofs.DeleteLemmas.{filter_has, map_had, same_test}
use Rattle.mx_table_rows.proofs.ChosenProofs.EqualLemmas.{equal_numbers, equal_texts}
use Rattle.mx_table_rows.specs.totals.Calls.{change_where}
use Rattle.mx_table_rows.specs.totals.Totals.{is_of_item, is_of_any}
use Rattle.mx_table_rows.specs.totals.Done.{is_own_line}
use Rattle.mx_table_rows.specs.totals.Puts.{rows_instead}
use Rattle.mx_table_rows.specs.totals.Late.{is_behind, is_late, value_credited, done_with}
use Rattle.mx_table_rows.specs.totals.LateSteps.{of_each, AreOfEach, was_behind, AreLate, is_any_line}
use Rattle.mx_table_rows.proofs.TotalsProofs.CreditLemmas.{none_of}
use Rattle.mx_table_rows.proofs.TotalsProofs.RowLemmas.{both_in, where_many, number_is}

-- ── the accomplishments of distinct items ──

or_and : (a b : Bool) → (a || b) && a ≡ a
or_and true b = refl
or_and false true = refl
or_and false false = refl

or_not : (a b : Bool) → (a ≡ true → b ≡ false) → (a || b) && not a ≡ b
or_not true true apart = absurd (let never = apart refl in cc)
or_not true false apart = refl
or_not false true apart = refl
or_not false false apart = refl

-- rows that pass one of two tests, of which none passes both, are those of the one and those of the other
either_parts : {X : Type 0} (p q : X → Bool) (xs : List X) → ((x : X) → Has xs x → p x ≡ true → q x ≡ false) → IsPermutation (filter (λ x. p x || q x) xs) (filter p xs ++ filter q xs)
either_parts {X} p q xs apart =
    let either = λ (x : X). p x || q x in
    subst₂ (λ l m. IsPermutation (filter either xs) (l ++ m))
    (both_in either p xs ∙ filter_has (λ x. either x && p x) p xs (λ x _. or_and (p x) (q x)))
    (both_in either (λ x. not (p x)) xs ∙ filter_has (λ x. either x && not (p x)) q xs (λ x here. or_not (p x) (q x) (apart x here)))
    (IsPermutation-filter_both p (λ x. not (p x)) (λ _. refl) (filter either xs))

-- the row is that of an accomplishment
abbrev IsDone : Row → Type 0
IsDone row = (x : DoneRow) × (row ≡ kept_done3.as_cells x)

module _ (rows : List Row) where
  pub each_parts : (items : List ℕ) → IsDistinct nat_eq items → ((row : Row) → Has (of_each items rows) row → IsDone row) → IsPermutation (filter (is_of_any items) rows) (of_each items rows)
  unfolding IsDistinct
  each_parts [] distinct done = IsPermutation-same _ _ (none rows)
    where
      none : (rs : List Row) → filter (λ _. false) rs ≡ []
      none [] = refl
      none (r ∷ rs) = none rs
  each_parts (item ∷ items) distinct done =
      let own = filter (is_of_item item) rows in
      let apart : (row : Row) → Has rows row → is_of_item item row ≡ true → is_of_any items row ≡ false =
      λ row here is. (let it = done row (has_left own (of_each items rows) row (has_kept (is_of_item item) rows row here is)) in
      let same : it.0.item ≡ item = number_is it.0.item item (subst (λ r. is_of_item item r ≡ true) it.1 is) in
      ap (is_of_any items) it.1 ∙ none_of it.0.item items (subst (λ n. AllByRecursion (λ m. nat_eq n m ≡ false) items) (sym same) distinct.0)) in
      IsPermutation-trans _ (own ++ filter (is_of_any items) rows) _ (either_parts (is_of_item item) (is_of_any items) rows apart)
      (IsPermutation-append_right own _ _ (each_parts items distinct.1 (λ row here. done row (has_right own (of_each items rows) row here))))

-- ── what is written ──

and_parts : (a b : Bool) → a && b ≡ true → (a ≡ true) × (b ≡ true)
and_parts true b h = (refl, h)
and_parts false b h = absurd cc

number_same : (n : ℕ) → equal Binary (Int (pos n)) (Int (pos n)) ≡ true
number_same n = equal_numbers n n ∙ grind (arith, nat_tests)

text_same : (t : List ℕ) → equal Binary (Text t) (Text t) ≡ true
text_same t = equal_texts t t ∙ bytes_eq_refl t

-- an accomplishment stands for its own line, credited or not
own_line : (added : Use) (x : DoneRow) → is_own_line (done_with added x) (kept_done3.as_cells x) ≡ true
own_line added x = simp (number_same x.item, text_same x.task, number_same x.seq, number_same x.line) refl

module _ (items : List ℕ) (distinct : IsDistinct nat_eq items) (added : Use) (landed : ℕ) (trees : Trees) where
  abbrev rows : List Row
  rows = rows_in done3 trees

  abbrev releases : List Row
  releases = rows_in crs trees

  abbrev behind : Row → Bool
  behind = is_behind landed releases

  abbrev test : Row → Bool
  test = is_late items landed releases

  -- the accomplishments of the items are those that were read
  pub all_read : (done : List DoneRow) → AreOfEach items trees done → IsPermutation (filter (is_of_any items) rows) (map kept_done3.as_cells done)
  all_read done are =
      let each : (row : Row) → Has (of_each items rows) row → IsDone row =
      λ row here. (let it = map_had kept_done3.as_cells done row (has_contained _ row (Contains-permutation (of_each items rows) (map kept_done3.as_cells done) row are.those (contains_had _ row here))) in (it.0, it.2)) in
      IsPermutation-trans _ (of_each items rows) _ (each_parts rows items distinct each) are.those

  module _ (ys : List DoneRow) (are : AreLate items added landed trees ys) where
    -- the accomplishments that are credited
    abbrev xs : List DoneRow
    xs = filter (was_behind landed releases) are.done

    read : IsPermutation (filter (is_of_any items) rows) (map kept_done3.as_cells are.done)
    read = all_read are.done are.read

    -- their rows are those that pass
    those : IsPermutation (filter test rows) (map kept_done3.as_cells xs)
    those = subst₂ IsPermutation (both_in (is_of_any items) behind rows) (filter-map behind kept_done3.as_cells are.done)
        (IsPermutation-filter behind (filter (is_of_any items) rows) (map kept_done3.as_cells are.done) read)

    abbrev is_put : Row → Bool
    is_put row = is_any_line (map (done_with added) xs) row

    put_passes : (row : Row) → Has rows row → test row ≡ true → is_put row ≡ true
    put_passes row here passes =
        let it = map_had kept_done3.as_cells xs row (has_contained _ row (Contains-permutation (filter test rows) (map kept_done3.as_cells xs) row those (contains_had _ row (has_kept test rows row here passes)))) in
        some_from (λ y. is_own_line y row) (map (done_with added) xs) (done_with added it.0) (mapped_has (done_with added) xs it.0 it.1)
        (ap (is_own_line (done_with added it.0)) it.2 ∙ own_line added it.0)

    passes_put : (row : Row) → Has rows row → is_put row ≡ true → test row ≡ true
    passes_put row here put =
        let it = some_has (λ y. is_own_line y row) (map (done_with added) xs) put in
        let from = map_had (done_with added) xs it.0 it.1 in
        let x = from.0 in
        let same : is_own_line (done_with added x) row ≡ true = subst (λ (y : DoneRow). is_own_line y row ≡ true) from.2 it.2 in
        let own = kept_done3.as_cells x in
        -- the row of x passes
        let own_passes = (has_filtered test rows own (has_contained _ own (Contains-permutation (map kept_done3.as_cells xs) (filter test rows) own (IsPermutation-sym _ _ those) (contains_had _ own (mapped_has kept_done3.as_cells xs x from.1))))).1 in
        let parts = and_parts (is_of_any items own) (behind own) own_passes in
        -- so its item is one of the items, and that of the row too
        let item = some_has (λ n. is_of_item n own) items parts.0 in
        let named : x.item ≡ item.0 = number_is x.item item.0 item.2 in
        let first = and_parts _ _ same in
        let second = and_parts _ _ first.1 in
        let third = and_parts _ _ second.1 in
        let of_items : is_of_any items row ≡ true = some_from (λ n. is_of_item n row) items item.0 item.1 (subst (λ n. is_of_item n row ≡ true) named first.0) in
        -- and the row was read
        let z = map_had kept_done3.as_cells are.done row (has_contained _ row (Contains-permutation (filter (is_of_any items) rows) (map kept_done3.as_cells are.done) row read (contains_had _ row (has_kept (is_of_any items) rows row here of_items)))) in
        let seq : z.0.seq ≡ x.seq = number_is z.0.seq x.seq (subst (λ r. has_value 2 (Int (pos x.seq)) r ≡ true) z.2 third.0) in
        let line : z.0.line ≡ x.line = number_is z.0.line x.line (subst (λ r. has_value 3 (Int (pos x.line)) r ≡ true) z.2 third.1) in
        let alike : behind row ≡ behind own = ap behind z.2 ∙ same_release z.0 x seq line in
        ap₂ (λ a b. a && b) of_items (alike ∙ parts.1)
      where
        same_release : (z x : DoneRow) → z.seq ≡ x.seq → z.line ≡ x.line → behind (kept_done3.as_cells z) ≡ behind (kept_done3.as_cells x)
        same_release z x seq line =
            ap₂ (λ (s l : ℕ). behind (kept_done3.as_cells (record z { seq = s; line = l }))) seq line

    -- the rows that pass are changed, where those that are written come in place of theirs
    pub late_exchanged : IsPermutation (change_where test (value_credited added) rows) (rows_instead kept_done3 (is_any_line ys) ys rows)
    late_exchanged =
        let new = map kept_done3.as_cells (map (done_with added) xs) in
        let made : map (value_credited added) (map kept_done3.as_cells xs) ≡ new = map-map (value_credited added) kept_done3.as_cells xs ∙ sym (map-map kept_done3.as_cells (done_with added) xs) in
        let others : filter (λ r. not (test r)) rows ≡ filter (λ r. not (is_put r)) rows = filter_has _ _ rows (λ r here. ap not (same_test (test r) (is_put r) (put_passes r here) (passes_put r here))) in
        let parts = subst₂ (λ (l m : List Row). IsPermutation (change_where test (value_credited added) rows) (l ++ m)) made others (where_many test (value_credited added) rows (map kept_done3.as_cells xs) those) in
        subst (λ (l : List DoneRow). IsPermutation (change_where test (value_credited added) rows) (rows_instead kept_done3 (is_any_line l) l rows)) (sym are.taken.are) parts
