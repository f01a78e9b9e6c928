-- The open span of a component, by the entry that began it: no two rows of the table have one number of that entry.
use Rattle.std.proofs.Common.{◌≡◌, inl, inr, ℕ, ℤ, pos, Bool, true, false, not, List, filter, IsTrue, refl, sym, ap, subst, ◌∙◌, arith}
use Rattle.std.proofs.lemmas.Int.{ints}
use Rattle.std.proofs.lemmas.Bool.Decides.{nat_tests}
use Rattle.std.proofs.lemmas.Cmp.{tied_itself}
use Rattle.std.specs.declared.cmp.Ordering.TheVariants.{Equal}
use Rattle.sqlite_rules.proofs.ListLemmas.{all_has, has_kept, has_filtered}
use Rattle.sqlite_rules.proofs.PlaceLemmas.{tied_same}
use Rattle.sqlite_rules.specs.Lists.{Has}
use Rattle.sqlite.specs.declared.types.Value.{Value}
use Rattle.sqlite.specs.declared.types.Value.TheVariants.{Null, Int, Real, Text, Blob}
use Rattle.sqlite.specs.Order.{Row, value_cmp}
use Rattle.sqlite.specs.Tree.{Trees, rowid}
use Rattle.sqlite.specs.Collation.TheVariants.{Binary}
use Rattle.sqlite_schema.specs.Rules.{equal}
use Rattle.sqlite_trees.specs.View.{is_int}
use Rattle.sqlite_value.proofs.OrderLemmas.{value_cmp_total}
use Rattle.sqlite_sql.specs.declared.ops.CompareOp.TheVariants.{Eq}
use Rattle.sqlite_typed.proofs.TestLemmas.{at_ints, int_test}
use Rattle.mx_base.specs.declared.rows.rows.SpanRow.{SpanRow}
use Rattle.mx_layout.specs.Contents.{cells, rows_in, Rises}
use Rattle.mx_layout.specs.Tables.{span2}
use Rattle.mx_layout.specs.kept.Cells.{kept_span2}
use Rattle.mx_table_rows.specs.chosen.Choices.{has_value, is_open}
use Rattle.mx_table_rows.proofs.ChosenProofs.DeleteLemmas.{filter_has, map_had, same_test}
use Rattle.mx_table_rows.proofs.ChosenProofs.EqualLemmas.{equal_numbers}
use Rattle.mx_table_rows.specs.totals.Single.{IsOnly}
use Rattle.mx_table_rows.proofs.TotalsProofs.RowLemmas.{passes_only}

same_integer : (a b : ℤ) → equal Binary (Int a) (Int b) ≡ true → a ≡ b
same_integer a b same = let test : int_test Eq a b ≡ true = sym (at_ints false Eq a b) ∙ same in grind (arith, ints)

-- a whole number that SQL finds equal to another is that one
pub integer_is : (v : Value) (n : ℤ) → IsTrue (is_int v) → equal Binary v (Int n) ≡ true → v ≡ Int n
integer_is Null n whole same = absurd cc
integer_is (Int m) n whole same = ap Int (same_integer m n same)
integer_is (Real x) n whole same = absurd cc
integer_is (Text t) n whole same = absurd cc
integer_is (Blob b) n whole same = absurd cc

module _ (component : ℕ) (trees : Trees) (x : SpanRow) (rises : Rises span2 trees) (only : IsOnly kept_span2 (is_open 1 (Int (pos component))) (rows_in span2 trees) x) where
  abbrev test : Row → Bool
  test = is_open 1 (Int (pos component))

  abbrev by : Row → Bool
  by = has_value 0 (Int (pos x.fit_seq))

  abbrev rows : List Row
  rows = rows_in span2 trees

  abbrev stored : List Row
  stored = trees span2.tree

  abbrev own : Row
  own = kept_span2.as_cells x

  own_open : test own ≡ true
  own_open = passes_only test rows own only.only

  own_key : by own ≡ true
  own_key = equal_numbers x.fit_seq x.fit_seq ∙ grind (arith, nat_tests)

  found : (r : Row) × Has stored r × (own ≡ cells span2 r)
  found = map_had (cells span2) stored own (has_filtered test rows own (subst (λ l. Has l own) (sym only.only) (inl refl))).0

  key_is : (r : Row) → Has stored r → by (cells span2 r) ≡ true → rowid r ≡ Int (pos x.fit_seq)
  key_is r here same = integer_is (rowid r) (pos x.fit_seq) (all_has (λ s. IsTrue (is_int (rowid s))) stored r rises.numbers here) same

  is_own : (r : Row) → Has stored r → by (cells span2 r) ≡ true → cells span2 r ≡ own
  is_own r here same =
      let key = Int (pos x.fit_seq) in
      let mine : rowid found.0 ≡ key = key_is found.0 found.1 (subst (λ c. by c ≡ true) found.2 own_key) in
      let tied : value_cmp (rowid r) (rowid found.0) ≡ Equal = ap (λ v. value_cmp v (rowid found.0)) (key_is r here same) ∙ ap (value_cmp key) mine ∙ tied_itself value_cmp_total key in
      ap (cells span2) (tied_same stored r found.0 rises.up here found.1 tied) ∙ sym found.2

  same_tests : (r : Row) → Has rows r → by r ≡ test r
  same_tests r here =
      let it = map_had (cells span2) stored r here in
      same_test (by r) (test r)
      (λ h. ap test (it.2 ∙ is_own it.0 it.1 (subst (λ c. by c ≡ true) it.2 h)) ∙ own_open)
      (λ h. elim (subst (λ l. Has l r) only.only (has_kept test rows r here h)) [ inl is ↦ ap by is ∙ own_key | inr none ↦ absurd none ])

  -- the rows that the entry of the span did not begin are those that are no open span of the component
  pub left_same : filter (λ r. not (by r)) rows ≡ filter (λ r. not (test r)) rows
  left_same = filter_has _ _ rows (λ r here. ap not (same_tests r here))
