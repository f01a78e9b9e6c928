-- What the lines of a release name, line by line.
use Rattle.std.proofs.Common.{refl, sym, ap, ◌∙◌, ◌≡◌, List, [], ◌∷◌, ◌++◌, Bool, ◌||◌}
use Rattle.std.specs.List.{list_any, flat_map}
use Rattle.std.proofs.lemmas.List.Folds.{list_any-append}

-- something that some things name passes a test where one of them names something that does
pub any_named : {X Y : Type 0} (test : Y → Bool) (named : X → List Y) (xs : List X) → list_any test (flat_map named xs) ≡ list_any (λ x. list_any test (named x)) xs
any_named test named [] = refl
any_named test named (x ∷ xs) = list_any-append test (named x) (flat_map named xs) ∙ ap (λ b. list_any test (named x) || b) (any_named test named xs)

-- so it is where the first things are tested apart
pub any_of_both : {X Y : Type 0} (test : Y → Bool) (first : List Y) (named : X → List Y) (xs : List X)
    → list_any test first || list_any (λ x. list_any test (named x)) xs ≡ list_any test (first ++ flat_map named xs)
any_of_both test first named xs =
    ap (λ q. list_any test first || q) (sym (any_named test named xs)) ∙ sym (list_any-append test first (flat_map named xs))
