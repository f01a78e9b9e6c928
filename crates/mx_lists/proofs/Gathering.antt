-- Loops that ask records for a row of each of some values, and what was gathered in three parts.
use Rattle.std.proofs.Common.{◌≡◌, ◌∙◌, refl, sym, ap, List, [], ◌∷◌, ◌++◌, map, append_assoc, Option, Some, None}
use Rattle.std.specs.List.{cons_option, filter_map}

-- with the row of the first put behind those that are had, the others give the rest
pub row_put : {X Y : Type 0} (f : X → Y) (xs later : List X) (x : X) (y : Y) (done more whole : List Y) → xs ≡ x ∷ later → more ≡ done ++ y ∷ [] → y ≡ f x → done ++ map f xs ≡ whole → more ++ map f later ≡ whole
row_put f xs later x y done more whole is put same i =
    ap (λ m. m ++ map f later) put ∙ append_assoc done (y ∷ []) (map f later)
    ∙ ap (λ z. done ++ z ∷ map f later) same ∙ ap (λ l. done ++ map f l) (sym is) ∙ i

joined : {Y : Type 0} (o : Option Y) (l : List Y) → cons_option o [] ++ l ≡ cons_option o l
joined None l = refl
joined (Some y) l = refl

-- the same, where the first may give none
pub found_put : {X Y : Type 0} (pick : X → Option Y) (xs later : List X) (x : X) (found : Option Y) (done more whole : List Y) → xs ≡ x ∷ later → more ≡ done ++ cons_option found [] → found ≡ pick x → done ++ filter_map pick xs ≡ whole → more ++ filter_map pick later ≡ whole
found_put pick xs later x found done more whole is put same i =
    ap (λ m. m ++ filter_map pick later) put ∙ append_assoc done (cons_option found []) (filter_map pick later)
    ∙ ap (λ l. done ++ l) (joined found (filter_map pick later))
    ∙ ap (λ o. done ++ cons_option o (filter_map pick later)) same ∙ ap (λ l. done ++ filter_map pick l) (sym is) ∙ i

-- three lists, one behind the other
pub three : {X : Type 0} (rows₀ rows₁ rows₂ rows₃ a b c a' b' c' : List X) → rows₀ ≡ [] → rows₁ ≡ rows₀ ++ a → rows₂ ≡ rows₁ ++ b → rows₃ ≡ rows₂ ++ c
    → a ≡ a' → b ≡ b' → c ≡ c' → rows₃ ≡ a' ++ (b' ++ c')
three rows₀ rows₁ rows₂ rows₃ a b c a' b' c' none first second third x y z =
    third ∙ ap (λ l. l ++ c) (second ∙ ap (λ l. l ++ b) (first ∙ ap (λ l. l ++ a) none))
    ∙ append_assoc a b c ∙ ap (λ l. l ++ (b ++ c)) x ∙ ap (λ l. a' ++ (l ++ c)) y ∙ ap (λ l. a' ++ (b' ++ l)) z
