-- The last of a list.
use Rattle.std.proofs.Common.{arith, ◌≡◌, ◌-◌, List, [], ◌∷◌, map, length, Option, Some, None, refl, ap, ◌∙◌}
use Rattle.std.specs.Prelude.{fold, slice_get, IfSome}
use Rattle.std.specs.List.{AllByRecursion}
use Rattle.std.specs.Option.{option_map}
use Rattle.mx_book.specs.Programme.{last_of}

map_from : {X Y : Type 0} (f : X → Y) (o : Option X) (xs : List X) → fold (λ before y. Some y) (option_map f o) (map f xs) ≡ option_map f (fold (λ before x. Some x) o xs)
map_from f o [] = refl
map_from f o (x ∷ xs) = map_from f (Some x) xs

-- the last of what is made of a list is made of its last
pub last-map : {X Y : Type 0} (f : X → Y) (xs : List X) → last_of (map f xs) ≡ option_map f (last_of xs)
last-map f xs = map_from f None xs

last_from : {X : Type 0} (o : Option X) (x : X) (xs : List X) → fold (λ before y. Some y) o (x ∷ xs) ≡ slice_get (x ∷ xs) (length xs)
last_from o x [] = refl
last_from o x (y ∷ xs) = last_from (Some x) y xs

-- the last is at the end
pub last_is : {X : Type 0} (xs : List X) → last_of xs ≡ slice_get xs (length xs - 1)
last_is [] = refl
last_is (x ∷ xs) = last_from None x xs ∙ (let same : length xs ≡ length (x ∷ xs) - 1 = omega arith in ap (slice_get (x ∷ xs)) same)

all_from : {X : Type 0} (P : X → Type 0) (o : Option X) (xs : List X) → IfSome o P → AllByRecursion P xs → IfSome (fold (λ before x. Some x) o xs) P
all_from P o [] h all = h
all_from P o (x ∷ xs) h all = all_from P (Some x) xs all.0 all.1

-- what holds of each holds of the last
pub all_last : {X : Type 0} (P : X → Type 0) (xs : List X) → AllByRecursion P xs → IfSome (last_of xs) P
all_last P [] all = tt
all_last P (x ∷ xs) all = all_from P (Some x) xs all.0 all.1
