-- Vectors that are empty, and those that are not, by their items.
use Rattle.std.proofs.Common.{◌≡◌, true, false, length, vec_len, Vec, List, [], ◌∷◌, ◌==◌, sym, ap, refl, ◌∙◌, arith}
use Rattle.std.proofs.lemmas.Bool.{eqb-true}
use Rattle.std.specs.declared.alloc.Global.{Global}

abbrev pub items_of : {X : Type 0} → Vec X Global → List X
items_of v = v.items

none_in : {X : Type 0} (xs : List X) → length xs ≡ 0 → xs ≡ []
none_in [] e = refl
none_in (x ∷ xs) e = absurd (omega (arith, e))

some_in : {X : Type 0} (xs : List X) → (length xs == 0) ≡ false → (x : X) × (more : List X) × (xs ≡ x ∷ more)
some_in [] e = absurd cc
some_in (x ∷ xs) e = (x, xs, refl)

long : {X : Type 0} (v : Vec X Global) → vec_len v ≡ length v.items
long v = omega (arith, v.ok.0)

pub none_of : {X : Type 0} (v : Vec X Global) → (vec_len v == 0) ≡ true → v.items ≡ []
none_of v e = none_in v.items (eqb-true (length v.items) 0 (ap (λ n. n == 0) (sym (long v)) ∙ e))

pub some_of : {X : Type 0} (v : Vec X Global) → (vec_len v == 0) ≡ false → (x : X) × (more : List X) × (v.items ≡ x ∷ more)
some_of v e = some_in v.items (ap (λ n. n == 0) (sym (long v)) ∙ e)
