-- What is left of a list by a test, what is found in it, and rows on lines.
use Rattle.std.proofs.Common.{◌≡◌, ℕ, ◌+◌, Bool, true, false, List, [], ◌∷◌, cond, filter, ◌||◌, Option, Some, None, refl, ap, ap₂}
use Rattle.std.specs.Prelude.{find, is_some, slice_get}
use Rattle.std.specs.List.{list_any, AllByRecursion}
use Rattle.std.specs.Option.{option_map}
use Rattle.mx_registers.specs.Lines.{lines_from}
use Rattle.mx_registers.specs.Registers.{if_any}

pub filter_all : {A : Type 0} (p : A → Bool) (xs : List A) → AllByRecursion (λ x. p x ≡ true) xs → filter p xs ≡ xs
filter_all p [] h = refl
filter_all p (x ∷ xs) h = rw (h.0, filter_all p xs h.1)

pub filter_none : {A : Type 0} (p : A → Bool) (xs : List A) → AllByRecursion (λ x. p x ≡ false) xs → filter p xs ≡ []
filter_none p [] h = refl
filter_none p (x ∷ xs) h = rw (h.0, filter_none p xs h.1)

-- what holds of each holds of each that is left
pub all_left : {A : Type 0} (P : A → Type 0) (p : A → Bool) (xs : List A) → AllByRecursion P xs → AllByRecursion P (filter p xs)
all_left P p [] h = tt
all_left P p (x ∷ xs) h = elim (p x) as (λ b. AllByRecursion P (cond b (x ∷ filter p xs) (filter p xs))) [ true ↦ (h.0, all_left P p xs h.1) | false ↦ all_left P p xs h.1 ]

-- equal lists have equal first elements, and equal others
pub same_parts : {A : Type 0} (x y : A) (xs ys : List A) → x ∷ xs ≡ y ∷ ys → (x ≡ y) × (xs ≡ ys)
same_parts x y xs ys h = (cc, cc)

-- a row that there is, is of a thing
pub one_of : {X Row : Type 0} (row : X → Row) (o : Option X) (r : Row) → if_any row o ≡ r ∷ [] → (x : X) × ((o ≡ Some x) × (row x ≡ r))
one_of row None r h = absurd cc
one_of row (Some x) r h = (x, (refl, (same_parts (row x) r [] [] h).0))

-- rows on lines are of one list of things, where each row is of one thing
module _ {X Row : Type 0} (row : ℕ → ℕ → X → Row) (P Q : X → Type 0) (one : (n line : ℕ) (x y : X) → P x → Q y → row n line x ≡ row n line y → x ≡ y) where
  pub lines_once : (n line : ℕ) (xs ys : List X) → AllByRecursion P xs → AllByRecursion Q ys → lines_from row n line xs ≡ lines_from row n line ys → xs ≡ ys
  lines_once n line [] [] p q h = refl
  lines_once n line [] (y ∷ ys) p q h = absurd cc
  lines_once n line (x ∷ xs) [] p q h = absurd cc
  lines_once n line (x ∷ xs) (y ∷ ys) p q h =
      let both = same_parts (row n line x) (row n line y) (lines_from row n (line + 1) xs) (lines_from row n (line + 1) ys) h in
      ap₂ ◌∷◌ (one n line x y p.0 q.0 both.0) (lines_once n (line + 1) xs ys p.1 q.1 both.1)

-- the first that passes is what is found
pub first_left : {X : Type 0} (p : X → Bool) (xs : List X) → slice_get (filter p xs) 0 ≡ find p xs
first_left p [] = refl
first_left p (x ∷ xs) = elim (p x) as (λ b. slice_get (cond b (x ∷ filter p xs) (filter p xs)) 0 ≡ cond b (Some x) (find p xs)) [ true ↦ refl | false ↦ first_left p xs ]

-- something is left where something passes
pub is_any : {X : Type 0} (p : X → Bool) (xs : List X) → is_some (slice_get (filter p xs) 0) ≡ list_any p xs
is_any p [] = refl
is_any p (x ∷ xs) = elim (p x) as (λ c. is_some (slice_get (cond c (x ∷ filter p xs) (filter p xs)) 0) ≡ c || list_any p xs) [ true ↦ refl | false ↦ is_any p xs ]

pub any_same : {X : Type 0} (p q : X → Bool) → ((x : X) → p x ≡ q x) → (xs : List X) → list_any p xs ≡ list_any q xs
any_same p q same [] = refl
any_same p q same (x ∷ xs) = ap₂ ◌||◌ (same x) (any_same p q same xs)

-- what is made of the first row, where one more that passes comes in front
pub first_if : {Row A : Type 0} (f : Row → A) (b c : Bool) (r : Row) (a : A) (o : Option Row) (p : Option A) → b ≡ c → f r ≡ a → option_map f o ≡ p → option_map f (cond b (Some r) o) ≡ cond c (Some a) p
first_if {A = A} f true true r a o p e i h = ap (λ (x : A). Some x) i
first_if f false false r a o p e i h = h
first_if f true false r a o p e i h = absurd cc
first_if f false true r a o p e i h = absurd cc

pub some_map : {X Y : Type 0} (f : X → Y) (o : Option X) → is_some (option_map f o) ≡ is_some o
some_map f None = refl
some_map f (Some x) = refl

pub some_is : {X : Type 0} (o : Option X) → is_some o ≡ true → (x : X) × (o ≡ Some x)
some_is None h = absurd cc
some_is (Some x) h = (x, refl)

pub none_is : {X : Type 0} (o : Option X) → is_some o ≡ false → o ≡ None
none_is None h = refl
none_is (Some x) h = absurd cc
