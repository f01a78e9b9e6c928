-- What look-ups find, one after another, and what is damaged where the second finds nothing.
use Rattle.std.proofs.Common.{◌≡◌, ℕ, pos, true, ◌∙◌, List, [], ◌∷◌, Bool, map, filter, length, Option, None, Some, Result, Ok, Err, inl, refl, sym, ap, subst, arith}
use Rattle.std.specs.List.Sorted.{IsPermutation}
use Rattle.std.specs.Prelude.{Contains, IsErrAnd, slice_get}
use Rattle.std.specs.Option.{option_map}
use Rattle.std.proofs.lemmas.List.Sorted.{IsPermutation-sym, Contains-permutation, length_permutation}
use Rattle.std.proofs.lemmas.List.Elements.{All-contains}
use Rattle.sqlite_rules.specs.Lists.{Has}
use Rattle.sqlite_rules.proofs.ListLemmas.{has_filtered, has_contained, contains_had}
use Rattle.sqlite_rules.proofs.ProbeLemmas.{mapped_has}
use Rattle.std.specs.declared.cmp.Ordering.{Ordering}
use Rattle.sqlite.specs.declared.types.Value.TheVariants.{Int}
use Rattle.sqlite.specs.Effect.{Database}
use Rattle.sqlite.specs.Order.{Row, column}
use Rattle.sqlite.specs.State.{State, HasCleanDisk}
use Rattle.sqlite.specs.Tree.{Trees}
use Rattle.mx_base.specs.declared.point.Point.{Point}
use Rattle.mx_book.specs.commands.Act.{Entry}
use Rattle.mx_layout.specs.TableName.{TableName}
use Rattle.mx_layout.specs.declared.fault.TableFault.{TableFault}
use Rattle.mx_layout.specs.Contents.{rows_in}
use Rattle.mx_layout.specs.Crash.{IsWithin}
use Rattle.mx_layout.specs.Names.{table_named}
use Rattle.mx_layout.specs.kept.Kept.{Kept}
use Rattle.mx_table_rows.specs.chosen.Choices.{has_value, is_any}
use Rattle.mx_table_rows.specs.chosen.Calls.{ReadsFirst}
use Rattle.mx_lookups.specs.numbers.Damage.{HasRow, IsKept, IsUnmet}
use Rattle.mx_lookups.specs.numbers.AnyRows.{AreChosen, ReadsAnyAt, Gives, GivesFirst, GivesBy}
use Rattle.mx_lookups.specs.numbers.Reads.{HasTablesOfRowsAt, ReadsAt}
use Rattle.mx_lookups.proofs.NumbersProofs.TableLemmas.{IsInEachAt, IsTableAt}

-- ── what is found ──

-- what the chosen rows of a table give that stands at the point
pub given_in : {at : Point} {X V W : Type 0} {k : Kept X} (is_in : IsInEachAt at k) {most : Option ℕ} {order : Row → Row → Ordering} {chosen : Row → Bool} {items : V → List X} {old new : State} {rows : V} (of : List X → W) {w : W}
    → w ≡ of (items rows) → ReadsFirst k most order chosen items old new (Ok rows) → ReadsAnyAt at (GivesFirst k most order chosen of) old new (Ok w)
given_in {k} is_in {most} {order} {chosen} {items} {old} {new} {rows} of is r = record { found = λ clean has. (items rows, record { are = r.rows clean (is_in _ has); fit = r.fits }, is) }

-- so of a table of which it is known what it keeps
pub gives : {at : Point} {X V W : Type 0} {k : Kept X} {book_rows : List Entry → List X} (it : IsTableAt at k book_rows) {most : Option ℕ} {order : Row → Row → Ordering} {chosen : Row → Bool} {items : V → List X} {old new : State} {rows : V} (of : List X → W) {w : W}
    → w ≡ of (items rows) → ReadsFirst k most order chosen items old new (Ok rows) → ReadsAnyAt at (GivesFirst k most order chosen of) old new (Ok w)
gives it = given_in it.is_in

-- where nothing is answered, nothing is said of the rows
pub silent : {at : Point} {V : Type 0} (Is : Trees → V → Type 0) (old new : State) (e : TableFault) (result : Result V TableFault) → IsErrAnd result (λ f. f ≡ e) → ReadsAnyAt at Is old new result
silent Is old new e (Ok v) is = absurd is
silent Is old new e (Err f) is = record { found = λ clean has. tt }

-- what follows from what is answered
pub any_so : {at : Point} {V W : Type 0} (P : Trees → V → Type 0) (Q : Trees → W → Type 0) (old new : State) (v : V) (w : W) → ((trees : Trees) → P trees v → Q trees w) → ReadsAnyAt at P old new (Ok v) → ReadsAnyAt at Q old new (Ok w)
any_so P Q old new v w so r = record { found = λ clean has. so old.now.trees (r.found clean has) }

-- behind a first look-up, over the rows that there were before it
pub any_later : {at : Point} {V W : Type 0} (P : List Entry → V → Type 0) (Q : Trees → W → Type 0) (a b c : State) (v : V) (w : W) → ReadsAt at P a b (Ok v) → IsWithin b c → ReadsAnyAt at Q b c (Ok w) → ReadsAnyAt at Q a c (Ok w)
any_later {at} P Q a b c v w one within two = record {
  found = λ clean has.
      let early : HasCleanDisk b = omega (arith, within.survives.clean) in
      let same : b.now ≡ a.now = one.unchanged early has in
      subst (λ (d : Database). Q d.trees w) same (two.found clean (subst (λ (d : Database). HasTablesOfRowsAt at d.schema) (sym same) has));
}

-- what was found, before what was looked up by it
pub found_some : {at : Point} {A : Type 0} (First : Trees → Option A → Type 0) {a b c : State} {found : Option A} {n : A} → found ≡ Some n → ReadsAnyAt at First a b (Ok found) → IsWithin b c → HasCleanDisk c → HasTablesOfRowsAt at a.now.schema → First a.now.trees (Some n)
found_some First {a} is first within clean has = subst (First a.now.trees) is (first.found (omega (arith, within.survives.clean)) has)

-- what is looked up by what was found
pub by_number : {at : Point} {A V : Type 0} (P : List Entry → Option A → Type 0) (First : Trees → Option A → Type 0) (none : V) (Then : A → Trees → V → Type 0) (a b c : State) (found : Option A) (n : A) (w : V) → found ≡ Some n
    → ReadsAt at P a b (Ok found) → ReadsAnyAt at First a b (Ok found) → IsWithin b c → ReadsAnyAt at (Then n) b c (Ok w) → ReadsAnyAt at (GivesBy First none Then) a c (Ok w)
by_number P First none Then a b c found n w is one first within later = record {
  found = λ clean has. record {
    found = Some n;
    first = found_some First is first within clean has;
    then = (any_later P (Then n) a b c found w one within later).found clean has;
  };
}

-- nothing was found
pub by_none : {at : Point} {A V : Type 0} (First : Trees → Option A → Type 0) (none : V) (Then : A → Trees → V → Type 0) (a b : State) (found : Option A) → found ≡ None → ReadsAnyAt at First a b (Ok found) → ReadsAnyAt at (GivesBy First none Then) a b (Ok none)
by_none First none Then a b found is first = record { found = λ clean has. record { found = None; first = subst (First a.now.trees) is (first.found clean has); then = refl } }

-- what is looked up by what was found, where that is handed on, or is not answered
pub by_result : {at : Point} {A V W : Type 0} (P : List Entry → Option A → Type 0) (First : Trees → Option A → Type 0) (none : V) (Then : A → Trees → V → Type 0) (of : W → V) (a b c : State) (found : Option A) (n : A) (result : Result W TableFault) → found ≡ Some n
    → ReadsAt at P a b (Ok found) → ReadsAnyAt at First a b (Ok found) → IsWithin b c → ReadsAnyAt at (λ trees w. Then n trees (of w)) b c result → ReadsAnyAt at (λ trees w. GivesBy First none Then trees (of w)) a c result
by_result P First none Then of a b c found n (Ok w) is one first within later = record { found = (by_number P First none Then a b c found n (of w) is one first within (record { found = later.found })).found }
by_result P First none Then of a b c found n (Err e) is one first within later = record { found = λ clean has. tt }

-- what was found gives the answer by itself
pub by_itself : {at : Point} {A U V : Type 0} (First : Trees → Option A → Type 0) (none : V) (gives : A → V) (of : U → Option A) (a b : State) (u : U) (found : A) (w : V) → of u ≡ Some found → w ≡ gives found → ReadsAnyAt at (λ trees o. First trees (of o)) a b (Ok u)
    → ReadsAnyAt at (GivesBy First none (λ it trees answer. answer ≡ gives it)) a b (Ok w)
by_itself First none gives of a b u found w is made first = record { found = λ clean has. record { found = Some found; first = subst (First a.now.trees) is (first.found clean has); then = made } }

-- ── what is damaged ──

-- a list of length 0 is empty
pub empty_is : {X : Type 0} (xs : List X) → length xs ≡ 0 → xs ≡ []
empty_is [] h = refl
empty_is (x ∷ xs) h = absurd cc

module _ {X : Type 0} (k : Kept X) {chosen : Row → Bool} {trees : Trees} where
  -- the rows that the table has and that are chosen
  shown : (xs : List X) → AreChosen k None k.order chosen trees xs → IsPermutation (filter chosen (rows_in (table_named k.name) trees)) (map k.as_cells xs)
  shown xs chose = subst (IsPermutation (filter chosen (rows_in (table_named k.name) trees))) (sym chose.are.first) chose.are.are.all

  -- one that is chosen is kept there
  pub chosen_kept : (x : X) (xs : List X) → Has xs x → AreChosen k None k.order chosen trees xs → IsKept k trees x
  chosen_kept x xs here chose =
      let all = rows_in (table_named k.name) trees in
      let rows = map k.as_cells xs in
      let one : Contains (filter chosen all) (k.as_cells x) = Contains-permutation rows (filter chosen all) (k.as_cells x) (IsPermutation-sym _ _ (shown xs chose)) (contains_had rows (k.as_cells x) (mapped_has k.as_cells xs x here)) in
      record {
        fits = All-contains k.Fits xs x chose.fit (contains_had xs x here);
        there = contains_had all (k.as_cells x) (has_filtered chosen all (k.as_cells x) (has_contained (filter chosen all) (k.as_cells x) one)).0;
      }

  -- where none is chosen, the table has none to choose
  pub none_chosen : AreChosen k None k.order chosen trees [] → filter chosen (rows_in (table_named k.name) trees) ≡ []
  none_chosen chose = let there = filter chosen (rows_in (table_named k.name) trees) in empty_is there (sym (length_permutation there [] (shown [] chose)))

-- the first of some rows, where it says this
first_says : {X W : Type 0} (of : X → W) (xs : List X) (w : W) → Some w ≡ option_map of (slice_get xs 0) → (x : X) × Has xs x × (w ≡ of x)
first_says of [] w is = absurd cc
first_says of (x ∷ xs) w is = (x, inl refl, cc)

-- the first of the rows that are chosen is kept
pub first_kept : {X W : Type 0} (k : Kept X) {chosen : Row → Bool} {trees : Trees} (of : X → W) (w : W) → Gives k chosen (λ rows. option_map of (slice_get rows 0)) trees (Some w) → HasRow k (λ x. w ≡ of x) trees
first_kept k of w gave = let one = first_says of gave.0 w gave.2 in (one.0, chosen_kept k one.0 gave.0 one.1 gave.1, one.2)

-- a row that is kept names by a number what another table was asked for and does not have
module _ {X Y W : Type 0} (k : Kept X) (other : Kept Y) (at : ℕ) (number : X → ℕ) (cells : (x : X) → column (k.as_cells x) at ≡ Int (pos (number x))) (has : Row → Bool) (told : TableName) {trees : Trees} {n : ℕ} (of : Y → W) where
  unmet_by : (x : X) (ys : List Y) → IsKept k trees x → has (k.as_cells x) ≡ true → n ≡ number x → AreChosen other None other.order (has_value 0 (Int (pos n))) trees ys → None ≡ option_map of (slice_get ys 0) → IsUnmet (record { from = k.name; has = has; at = at; to = other.name; told = told }) trees
  unmet_by x (y ∷ ys) kept asks same none missing = absurd cc
  unmet_by x [] kept asks same none missing = record {
    row = k.as_cells x;
    there = kept.there;
    has = asks;
    missed = subst (λ cell. filter (has_value 0 cell) (rows_in (table_named other.name) trees) ≡ []) (ap (λ m. Int (pos m)) same ∙ sym (cells x)) (none_chosen other none);
  }

  pub kept_unmet : (x : X) → IsKept k trees x → has (k.as_cells x) ≡ true → n ≡ number x → Gives other (has_value 0 (Int (pos n))) (λ rows. option_map of (slice_get rows 0)) trees None → IsUnmet (record { from = k.name; has = has; at = at; to = other.name; told = told }) trees
  kept_unmet x kept asks same none = unmet_by x none.0 kept asks same none.1 none.2

-- the first row that was found names it
pub unmet : {X Y W : Type 0} (k : Kept X) (other : Kept Y) (at : ℕ) (number : X → ℕ) (cells : (x : X) → column (k.as_cells x) at ≡ Int (pos (number x))) (told : TableName) {chosen : Row → Bool} {trees : Trees} {n : ℕ} (of : Y → W)
    → Gives k chosen (λ rows. option_map number (slice_get rows 0)) trees (Some n) → Gives other (has_value 0 (Int (pos n))) (λ rows. option_map of (slice_get rows 0)) trees None
    → IsUnmet (record { from = k.name; has = is_any; at = at; to = other.name; told = told }) trees
unmet k other at number cells told {n = n} of one none = let row = first_kept k number n one in kept_unmet k other at number cells is_any told of row.0 row.1 refl row.2 none
