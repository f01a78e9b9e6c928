-- Accomplishments behind a landing: which are read, and what is made of them.
use Rattle.std.proofs.Common.{◌≡◌, ◌≢◌, inl, inr, ℕ, Bool, true, false, cond, ◌&&◌, ◌||◌, not, List, [], ◌∷◌, ◌++◌, map, filter, Option, Some, None, IsPermutation, refl, sym, ap, ap₂, subst₂, ◌∙◌, arith}
use Rattle.std.specs.Prelude.{nat_lt, if◌then◌else◌}
use Rattle.std.specs.List.{list_any}
use Rattle.std.specs.Option.{option_to_list}
use Rattle.std.proofs.lemmas.Bool.{cases_Bool}
use Rattle.std.proofs.lemmas.Bool.Decides.{nat_tests}
use Rattle.std.proofs.lemmas.List.{map-append, append-nil}
use Rattle.std.proofs.lemmas.List.Concat.{flat_map-append}
use Rattle.std.proofs.lemmas.List.Elements.{All-nil, All-cons, All-append, filter-append}
use Rattle.std.proofs.lemmas.List.Sorted.{IsPermutation-refl, IsPermutation-append}
use Rattle.sqlite.specs.Order.{Row, column}
use Rattle.sqlite.specs.Tree.{Trees}
use Rattle.mx_base.specs.declared.amounts.Use.{Use}
use Rattle.mx_base.specs.declared.rows.rows.DoneRow.{DoneRow}
use Rattle.mx_base.specs.declared.rows.rows.ReleaseRow.{ReleaseRow}
use Rattle.mx_book.specs.due.Due.{IsLife}
use Rattle.mx_layout.specs.declared.fault.Table.TheVariants.{Done3}
use Rattle.mx_layout.specs.Contents.{rows_in}
use Rattle.mx_layout.specs.Tables.{crs, done3}
use Rattle.mx_layout.specs.kept.Cells.{kept_crs, kept_done3}
use Rattle.mx_table_rows.proofs.ChosenProofs.EqualLemmas.{equal_numbers}
use Rattle.mx_table_rows.specs.totals.Done.{IsDated}
use Rattle.mx_table_rows.specs.totals.Found.{is_from}
use Rattle.mx_table_rows.specs.totals.Several.{AreExactly}
use Rattle.mx_table_rows.specs.totals.Single.{IsOnly}
use Rattle.mx_table_rows.specs.totals.Totals.{life_with, is_of_item}
use Rattle.mx_table_rows.specs.totals.Late.{is_stated, is_release_of, life_at, done_with}
use Rattle.mx_table_rows.specs.totals.LateSteps.{of_each, AreOfEach, was_behind, IsGiven, IsTaken, CantTake, AreTaken}

-- ── one accomplishment ──

any_both : {X : Type 0} (p q : X → Bool) (xs : List X) → list_any (λ x. p x && q x) xs ≡ list_any q (filter p xs)
any_both p q [] = refl
any_both p q (x ∷ xs) = elim (cases_Bool (p x)) [
  | inl a ↦ simp a (ap (λ b. q x || b) (any_both p q xs))
  | inr a ↦ simp a (any_both p q xs)
]

or_false : (b : Bool) → b || false ≡ b
or_false true = refl
or_false false = refl

pub lined : (x : DoneRow) → x.line ≢ 0 → is_stated (kept_done3.as_cells x) ≡ false
lined x some = equal_numbers x.line 0 ∙ grind (arith, nat_tests)

-- the release says whether the accomplishment is behind the landing
behind_is : (landed : ℕ) (releases : List Row) (x : DoneRow) (release : ReleaseRow) → x.line ≢ 0 → IsOnly kept_crs (is_release_of (kept_done3.as_cells x)) releases release
    → was_behind landed releases x ≡ not (nat_lt release.moment landed)
behind_is landed releases x release some only =
    let row = kept_done3.as_cells x in
    let from = λ (r : Row). is_from landed (column r 3) in
    ap (λ b. not b && list_any (λ r. is_release_of row r && from r) releases) (lined x some)
    ∙ any_both (is_release_of row) from releases ∙ ap (list_any from) only.only ∙ or_false (not (nat_lt release.moment landed))

module _ (added : Use) (landed : ℕ) where
  -- an opening stated it
  pub taken_stated : (x : DoneRow) (trees : Trees) → x.line ≡ 0 → IsTaken added landed x trees None
  taken_stated x trees none =
      let stated : is_stated (kept_done3.as_cells x) ≡ true = equal_numbers x.line 0 ∙ grind (arith, nat_tests) in
      let left : was_behind landed (rows_in crs trees) x ≡ false = ap (λ b. not b && list_any (λ r. is_release_of (kept_done3.as_cells x) r && is_from landed (column r 3)) (rows_in crs trees)) stated in
      record {
        given = record { can = λ behind. absurd (cc); has = λ lined. absurd (cc) };
        is = ap (λ b. if b then Some (done_with added x) else None) (sym left);
      }

  module _ (x : DoneRow) (trees : Trees) (release : ReleaseRow) (some : x.line ≢ 0) (only : IsOnly kept_crs (is_release_of (kept_done3.as_cells x)) (rows_in crs trees) release) where
    -- its release is before the landing
    pub taken_before : nat_lt release.moment landed ≡ true → IsTaken added landed x trees None
    taken_before before =
        let left : was_behind landed (rows_in crs trees) x ≡ false = behind_is landed (rows_in crs trees) x release some only ∙ ap not before in
        record {
          given = record { can = λ behind. absurd (cc); has = λ _. (release, only) };
          is = ap (λ b. if b then Some (done_with added x) else None) (sym left);
        }

    behind_too : nat_lt release.moment landed ≡ false → was_behind landed (rows_in crs trees) x ≡ true
    behind_too from = behind_is landed (rows_in crs trees) x release some only ∙ ap not from

    pub taken_behind : nat_lt release.moment landed ≡ false → IsDated x → IsLife (life_with (life_at x) added) → IsTaken added landed x trees (Some (done_with added x))
    taken_behind from dated life = record {
      given = record { can = λ _. (dated, life); has = λ _. (release, only) };
      is = ap (λ b. if b then Some (done_with added x) else None) (sym (behind_too from));
    }

    pub cant_take : nat_lt release.moment landed ≡ false → ¬ (IsDated x × IsLife (life_with (life_at x) added)) → CantTake added landed x trees Done3
    cant_take from past can = past (can (behind_too from))

  -- ── some of them ──

  pub none_taken : (trees : Trees) → AreTaken added landed [] trees []
  none_taken trees = record { given = All-nil (IsGiven added landed (rows_in crs trees)); are = refl }

  chosen_is : (b : Bool) (x y : DoneRow) → option_to_list (if b then Some y else None) ≡ cond b (y ∷ []) []
  chosen_is true x y = refl
  chosen_is false x y = refl

  kept_is : (b : Bool) (x : DoneRow) → map (done_with added) (cond b (x ∷ []) []) ≡ cond b (done_with added x ∷ []) []
  kept_is true x = refl
  kept_is false x = refl

  pub taken_more : (trees : Trees) (xs ys : List DoneRow) (x : DoneRow) (made : Option DoneRow) → AreTaken added landed xs trees ys → IsTaken added landed x trees made → AreTaken added landed (xs ++ x ∷ []) trees (ys ++ option_to_list made)
  taken_more trees xs ys x made all one =
      let releases = rows_in crs trees in
      let Given = IsGiven added landed releases in
      let test = was_behind landed releases in
      let more : option_to_list made ≡ map (done_with added) (filter test (x ∷ [])) = ap option_to_list one.is ∙ chosen_is (test x) x (done_with added x) ∙ sym (kept_is (test x) x) in
      record {
        given = All-append Given xs (x ∷ []) all.given (All-cons Given x [] one.given (All-nil Given));
        are = ap₂ (λ a b. a ++ b) all.are more ∙ sym (map-append (done_with added) (filter test xs) (filter test (x ∷ []))) ∙ ap (map (done_with added)) (sym (filter-append test xs (x ∷ [])));
      }

-- ── the accomplishments of items ──

pub none_done : (trees : Trees) → AreOfEach [] trees []
none_done trees = record { fit = All-nil kept_done3.Fits; those = IsPermutation-refl [] }

pub done_more : (trees : Trees) (items : List ℕ) (xs : List DoneRow) (item : ℕ) (ys : List DoneRow) → AreOfEach items trees xs → AreExactly kept_done3 (is_of_item item) (rows_in done3 trees) ys → AreOfEach (items ++ item ∷ []) trees (xs ++ ys)
done_more trees items xs item ys all one =
    let rows = rows_in done3 trees in
    let own = λ (n : ℕ). filter (is_of_item n) rows in
    let from : of_each (items ++ item ∷ []) rows ≡ of_each items rows ++ own item = flat_map-append own items (item ∷ []) ∙ ap (λ l. of_each items rows ++ l) (append-nil (own item)) in
    record {
      fit = All-append kept_done3.Fits xs ys all.fit one.fit;
      those = subst₂ IsPermutation (sym from) (sym (map-append kept_done3.as_cells xs ys)) (IsPermutation-append _ _ _ _ all.those one.those);
    }
