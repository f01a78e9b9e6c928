-- Totals that are looked up one after another, over any rows.
use Rattle.std.proofs.Common.{◌≡◌, ◌∙◌, arith, ℕ, ◌-◌, ◌≤◌, ◌<◌, pos, List, [], ◌∷◌, ◌++◌, All, Option, None, Some, length, get_or, take, refl, sym, subst, append-nil}
use Rattle.std.specs.Prelude.{Contains, IfSome, slice_get, ◌⊎◌}
use Rattle.std.proofs.Common.{inl, inr}
use Rattle.std.specs.List.{cons_option}
use Rattle.std.specs.List.Sorted.{IsPermutation}
use Rattle.std.proofs.lemmas.List.{get_or-take, length-take}
use Rattle.std.proofs.lemmas.List.Elements.{All-nil, All-push, All-weaker, Contains-append_left, Contains-get_or, Contains-push, Contains-push_cases}
use Rattle.std.proofs.lemmas.List.Sorted.{Contains-permutation, IsPermutation-sym}
use Rattle.sqlite.specs.Tree.{Trees}
use Rattle.sqlite.specs.declared.types.Value.TheVariants.{Int}
use Rattle.mx_base.specs.declared.rows.rows.TotalRow.{TotalRow}
use Rattle.mx_layout.specs.kept.Cells.{kept_total2}
use Rattle.mx_table_rows.specs.chosen.Choices.{has_value}
use Rattle.mx_lookups.specs.numbers.AnyRows.{AreChosen, Gives}
use Rattle.mx_apply.specs.made.Found.{AppendsTotal, AreTotalsOf}
use Rattle.mx_apply.specs.made.Totals.{TotalOf}
use Rattle.mx_apply.proofs.MadeProofs.TotalLemmas.{chosen_has}

-- the total that is looked up by a number has it
total_has : (n : ℕ) (trees : Trees) (row : TotalRow) → Gives kept_total2 (has_value 0 (Int (pos n))) (λ rows. slice_get rows 0) trees (Some row) → row.item ≡ n
total_has n trees row gave = at gave.0 gave.1 gave.2
  where
    at : (rows : List TotalRow) → AreChosen kept_total2 None kept_total2.order (has_value 0 (Int (pos n))) trees rows → Some row ≡ slice_get rows 0 → row.item ≡ n
    at [] chose is = absurd cc
    at (x ∷ xs) chose is =
        let same : x ≡ row = cc in
        subst (λ (r : TotalRow). r.item ≡ n) same (chosen_has kept_total2 (λ (r : TotalRow). r.item) (λ r. refl) n trees x xs chose)

abbrev IsOf : List ℕ → Trees → TotalRow → Type 0
IsOf numbers trees row = Contains numbers row.item × TotalOf row.item trees (Some row)

-- of no numbers there are none
pub none_of : (trees : Trees) (totals : List TotalRow) → totals ≡ [] → AreTotalsOf [] trees totals
none_of trees totals none = record {
  each = subst (All (IsOf [] trees)) (sym none) (All-nil (IsOf [] trees));
  all = λ n there. absurd (omega (arith, there.1));
}

module _ (trees : Trees) (ns : List ℕ) (n : ℕ) (was : List TotalRow) (had : AreTotalsOf ns trees was) where
  abbrev more : List ℕ
  more = ns ++ n ∷ []

  still : All (IsOf more trees) was
  still = All-weaker (IsOf ns trees) (IsOf more trees) (λ row is. (Contains-append_left ns (n ∷ []) row.item is.0, is.1)) was had.each

  each_more : (found : Option TotalRow) → TotalOf n trees found → All (IsOf more trees) (was ++ cons_option found [])
  each_more None it = subst (All (IsOf more trees)) (sym (append-nil was)) still
  each_more (Some row) it =
      let same : row.item ≡ n = total_has n trees row it.0 in
      All-push (IsOf more trees) was row still (subst (Contains more) (sym same) (Contains-push ns n), subst (λ m. TotalOf m trees (Some row)) (sym same) it)

  longer : (found one : Option TotalRow) → IfSome one (Contains was) → IfSome one (Contains (was ++ cons_option found []))
  longer found None there = tt
  longer found (Some row) there = Contains-append_left was (cons_option found []) row there

  itself : (found : Option TotalRow) → IfSome found (Contains (was ++ cons_option found []))
  itself None = tt
  itself (Some row) = Contains-push was row

  of_each : (now : List TotalRow) → ((one : Option TotalRow) → IfSome one (Contains was) → IfSome one (Contains now)) → (found : Option TotalRow) → TotalOf n trees found → IfSome found (Contains now) → (m : ℕ) → Contains more m → (one : Option TotalRow) × TotalOf m trees one × IfSome one (Contains now)
  of_each now keeps found it there m among = at (Contains-push_cases ns n m among)
    where
      at : Contains ns m ⊎ (n ≡ m) → (one : Option TotalRow) × TotalOf m trees one × IfSome one (Contains now)
      at (inl before) = let one = had.all m before in (one.0, one.1, keeps one.0 one.2)
      at (inr same) = subst (λ k. (one : Option TotalRow) × TotalOf k trees one × IfSome one (Contains now)) same (found, it, there)

  -- one more is appended
  pub one_of : (now : List TotalRow) → AppendsTotal n was now trees → AreTotalsOf more trees now
  one_of now added = subst (AreTotalsOf more trees) (sym added.2) (record {
    each = each_more added.0 added.1;
    all = of_each (was ++ cons_option added.0 []) (longer added.0) added.0 added.1 (itself added.0);
  })

  -- a number that is there already
  pub again_of : Contains ns n → AreTotalsOf more trees was
  again_of there = record {
    each = still;
    all = (let one = had.all n there in of_each was (λ o h. h) one.0 one.1 one.2);
  }

-- in another order the numbers are the same
pub of_permuted : (trees : Trees) (numbers sorted : List ℕ) (totals : List TotalRow) → IsPermutation numbers sorted → AreTotalsOf sorted trees totals → AreTotalsOf numbers trees totals
of_permuted trees numbers sorted totals same h = record {
  each = All-weaker (IsOf sorted trees) (IsOf numbers trees) (λ row is. (Contains-permutation sorted numbers row.item (IsPermutation-sym numbers sorted same) is.0, is.1)) totals h.each;
  all = λ n there. h.all n (Contains-permutation numbers sorted n same there);
}

-- a number that is the last of those before it is there
pub there_last : (ns : List ℕ) (d i : ℕ) → 1 ≤ i → i < length ns → get_or ns (i - 1) d ≡ get_or ns i d → Contains (take i ns) (get_or ns i d)
there_last ns d i some low same =
    let less : i - 1 < length (take i ns) = (let size = length-take i ns in omega (arith, size, some, low)) in
    let there : get_or (take i ns) (i - 1) d ≡ get_or ns (i - 1) d = get_or-take i ns (i - 1) d (omega (arith, some)) in
    subst (Contains (take i ns)) (there ∙ same) (Contains-get_or (take i ns) (i - 1) d less)
