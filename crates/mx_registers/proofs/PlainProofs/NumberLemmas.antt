-- The number of an entry, by its place among the entries.
use Rattle.std.proofs.Common.{◌≡◌, ℕ, ◌+◌, List, [], ◌∷◌, Bool, true, false, cond, Option, Some, refl, sym, ap, ◌∙◌}
use Rattle.std.specs.List.{position, position_from}
use Rattle.std.specs.Option.{option_map}
use Rattle.std.proofs.lemmas.Iterator.Adapters.{position_from-zero}
use Rattle.mx_book.specs.commands.Act.{Entry}
use Rattle.mx_registers.specs.Names.{adds_named, number_from}

step_if : (b : Bool) (k : ℕ) (o p : Option ℕ) → o ≡ option_map (λ i. i + 1) p → cond b (Some (k + 1)) o ≡ option_map (λ i. i + 1) (cond b (Some k) p)
step_if true k o p h = refl
step_if false k o p h = h

place_from : (name_of : Entry → Option (List ℕ)) (name : List ℕ) (k : ℕ) (book : List Entry) → number_from name_of name (k + 1) book ≡ option_map (λ i. i + 1) (position_from (adds_named name_of name) k book)
place_from name_of name k [] = refl
place_from name_of name k (entry ∷ book) =
    step_if (adds_named name_of name entry) k (number_from name_of name (k + 1 + 1) book) (position_from (adds_named name_of name) (k + 1) book) (place_from name_of name (k + 1) book)

-- the number is one more than the place, which is counted from 0
pub number_by_place : (name_of : Entry → Option (List ℕ)) (name : List ℕ) (book : List Entry) → number_from name_of name 1 book ≡ option_map (λ i. i + 1) (position (adds_named name_of name) book)
number_by_place name_of name book = place_from name_of name 0 book ∙ ap (option_map (λ i. i + 1)) (sym (position_from-zero (adds_named name_of name) book))
