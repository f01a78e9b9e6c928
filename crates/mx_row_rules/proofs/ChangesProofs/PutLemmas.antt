-- Rows that come in place of those with their numbers, where these are some of the rows, changed.
use Rattle.std.proofs.Common.{◌≡◌, ◌+◌, ◌<◌, ℕ, Bool, true, false, not, cond, List, [], ◌∷◌, ◌++◌, map, filter, All, refl, sym, ap, subst, ◌∙◌, arith}
use Rattle.std.specs.Prelude.{nat_eq}
use Rattle.std.specs.List.{AllByRecursion}
use Rattle.std.specs.List.Sorted.{IsPermutation}
use Rattle.std.proofs.lemmas.Bool.Decides.{nat_tests}
use Rattle.std.proofs.lemmas.List.Elements.{All-cons, All-head, All-tail, filter-append}
use Rattle.std.proofs.lemmas.List.Sorted.{IsPermutation-cons, IsPermutation-middle, IsPermutation-refl, IsPermutation-trans}
use Rattle.mx_base.specs.rows.Rising.{IsRising}
use Rattle.mx_row_rules.specs.changes.Puts.{has_number_of, rows_put}

pub same_rows : {X : Type 0} (xs ys : List X) → xs ≡ ys → IsPermutation xs ys
same_rows xs ys same = subst (λ zs. IsPermutation xs zs) same (IsPermutation-refl xs)

module _ {Row : Type 0} (number : Row → ℕ) where
  abbrev left : ℕ → Row → Bool
  left n row = not (nat_eq (number row) n)

  -- the rows without those that have a number
  abbrev without : ℕ → List Row → List Row
  without n rows = filter (left n) rows

  stays : (row : Row) (n : ℕ) → nat_eq (number row) n ≡ false → left n row ≡ true
  stays row n e = ap not e

  goes : (row : Row) (n : ℕ) → number row ≡ n → left n row ≡ false
  goes row n e = ap not (same (number row) n e)
    where
      same : (a b : ℕ) → a ≡ b → nat_eq a b ≡ true
      same a b e = grind (arith, nat_tests)

  below : (n m : ℕ) → n < m → nat_eq n m ≡ false
  below n m less = grind (arith, nat_tests)

  above : (n m : ℕ) → n < m → nat_eq m n ≡ false
  above n m less = grind (arith, nat_tests)

  all_left : (n low high : ℕ) (rows : List Row) → IsRising number low rows high → n < low → without n rows ≡ rows
  all_left n low high [] up less = refl
  all_left n low high (row ∷ rows) up less =
      ap (λ b. cond b (row ∷ without n rows) (without n rows)) (stays row n (above n (number row) (omega (arith, up.0))))
      ∙ ap (λ l. row ∷ l) (all_left n (number row + 1) high rows up.1 (omega (arith, up.0)))

  without_append : (n : ℕ) (front rest : List Row) → without n (front ++ rest) ≡ without n front ++ without n rest
  without_append n front rest = filter-append (left n) front rest

  -- a row with a lesser number than each of these stays, wherever it stands
  stays_among : (xs : List Row) (row : Row) (front rest : List Row) → AllByRecursion (λ x. number row < number x) xs → IsPermutation (rows_put (has_number_of number) xs (front ++ row ∷ rest)) (row ∷ rows_put (has_number_of number) xs (front ++ rest))
  stays_among [] row front rest up = IsPermutation-middle front row rest
  stays_among (x ∷ xs) row front rest up =
      let n = number x in
      let kept : without n (row ∷ rest) ≡ row ∷ without n rest =
      ap (λ b. cond b (row ∷ without n rest) (without n rest)) (stays row n (below (number row) n up.0)) in
      let one : without n (front ++ row ∷ rest) ≡ without n front ++ row ∷ without n rest =
      without_append n front (row ∷ rest) ∙ ap (λ l. without n front ++ l) kept in
      IsPermutation-trans _ _ _ (same_rows _ _ (ap (λ l. rows_put (has_number_of number) xs (x ∷ l)) one))
      (IsPermutation-trans _ _ _ (stays_among xs row (x ∷ without n front) (without n rest) up.1)
      (same_rows _ _ (ap (λ l. row ∷ rows_put (has_number_of number) xs (x ∷ l)) (sym (without_append n front rest)))))

  passes : (xs : List Row) (row : Row) (rows : List Row) → AllByRecursion (λ x. number row < number x) xs → IsPermutation (rows_put (has_number_of number) xs (row ∷ rows)) (row ∷ rows_put (has_number_of number) xs rows)
  passes xs row rows up = stays_among xs row [] rows up

  module _ (test : Row → Bool) (change : Row → Row) (keeps : (row : Row) → number (change row) ≡ number row) where
    abbrev news : List Row → List Row
    news rows = map change (filter test rows)

    news_above : (n low high : ℕ) (rows : List Row) → IsRising number low rows high → n < low → AllByRecursion (λ x. n < number x) (news rows)
    news_above n low high [] up less = tt
    news_above n low high (row ∷ rows) up less = at (test row) (news_above n (number row + 1) high rows up.1 (omega (arith, up.0)))
      where
        at : (b : Bool) → AllByRecursion (λ x. n < number x) (news rows) → AllByRecursion (λ x. n < number x) (map change (cond b (row ∷ filter test rows) (filter test rows)))
        at true h = (omega (arith, keeps row, up.0), h)
        at false h = h

    -- those that pass the test, changed, in place of what they were, where the others do not change
    pub put_is : (low high : ℕ) (rows : List Row) → IsRising number low rows high → AllByRecursion (λ row. test row ≡ false → change row ≡ row) rows → IsPermutation (rows_put (has_number_of number) (news rows) rows) (map change rows)
    put_is low high [] up only = IsPermutation-refl []
    put_is low high (row ∷ rows) up only = at (test row) refl (put_is (number row + 1) high rows up.1 only.1) (news_above (number row) (number row + 1) high rows up.1 (omega arith))
      where
        at : (b : Bool) → test row ≡ b → IsPermutation (rows_put (has_number_of number) (news rows) rows) (map change rows) → AllByRecursion (λ x. number row < number x) (news rows)
            → IsPermutation (rows_put (has_number_of number) (map change (cond b (row ∷ filter test rows) (filter test rows))) (row ∷ rows)) (change row ∷ map change rows)
        at false e rest up_from =
            IsPermutation-trans _ _ _ (passes (news rows) row rows up_from)
            (IsPermutation-trans _ _ _ (IsPermutation-cons row _ _ rest) (same_rows _ _ (ap (λ y. y ∷ map change rows) (sym (only.0 e)))))
        at true e rest up_from =
            let n = number (change row) in
            let same : n ≡ number row = keeps row in
            let gone : without n (row ∷ rows) ≡ rows =
            ap (λ b. cond b (row ∷ without n rows) (without n rows)) (goes row n (sym same))
            ∙ all_left n (number row + 1) high rows up.1 (omega (arith, same)) in
            let higher : AllByRecursion (λ x. number (change row) < number x) (news rows) = subst (λ m. AllByRecursion (λ x. m < number x) (news rows)) (sym same) up_from in
            IsPermutation-trans _ _ _ (same_rows _ _ (ap (λ l. rows_put (has_number_of number) (news rows) (change row ∷ l)) gone))
            (IsPermutation-trans _ _ _ (passes (news rows) (change row) rows higher) (IsPermutation-cons (change row) _ _ rest))

-- ── rows that fit ──

fewer_fit : {Row : Type 0} (Fits : Row → Type 0) (test : Row → Bool) (rows : List Row) → All Fits rows → All Fits (filter test rows)
fewer_fit Fits test [] fit = fit
fewer_fit {Row} Fits test (row ∷ rows) fit = at (test row) (fewer_fit Fits test rows (All-tail Fits row rows fit))
  where
    at : (b : Bool) → All Fits (filter test rows) → All Fits (cond b (row ∷ filter test rows) (filter test rows))
    at true rest = All-cons Fits row _ (All-head Fits row rows fit) rest
    at false rest = rest

-- where those that are put fit, and the rows did, all do
pub put_fit : {Row : Type 0} (Fits : Row → Type 0) (same : Row → Row → Bool) (xs rows : List Row) → All Fits xs → All Fits rows → All Fits (rows_put same xs rows)
put_fit Fits same [] rows news fit = fit
put_fit Fits same (x ∷ xs) rows news fit =
    put_fit Fits same xs _ (All-tail Fits x xs news) (All-cons Fits x _ (All-head Fits x xs news) (fewer_fit Fits (λ other. not (same x other)) rows fit))
