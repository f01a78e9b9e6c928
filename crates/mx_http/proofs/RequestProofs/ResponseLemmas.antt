-- Bytes appended one after another.
use Rattle.std.proofs.Common.{◌≡◌, ℕ, List, ◌++◌, ap, ◌∙◌, append_assoc}

pub four_in_turn : (a b c d v w x y : List ℕ) → b ≡ a ++ v → c ≡ b ++ w → d ≡ c ++ x → d ++ y ≡ a ++ (v ++ (w ++ (x ++ y)))
four_in_turn a b c d v w x y p q r =
    let joined : d ++ y ≡ ((a ++ v) ++ w) ++ x ++ y = ap (λ l. l ++ y) (r ∙ ap (λ l. l ++ x) (q ∙ ap (λ l. l ++ w) p)) in
    joined ∙ simp append_assoc
