-- What the entries of a list give, one after another.
use Rattle.std.proofs.Common.{◌≡◌, Bool, ◌||◌, ◌<◌, ◌+◌, ℕ, List, [], ◌∷◌, ◌++◌, length, get_or, drop, append_assoc, Result, Ok, Err, refl, sym, ap, ◌∙◌}
use Rattle.std.proofs.lemmas.List.{drop_more}
use Rattle.mx_intake.specs.Fault.{fault}
use Rattle.mx_intake.specs.Sequence.{after, given_before}
use Rattle.mx_intake.specs.declared.fault.IntakeFault.{IntakeFault}

-- these, then one more, then the rest
after_one : {A : Type 0} (first : List A) (a : A) (rest : Result (List A) IntakeFault) → after first (after (a ∷ []) rest) ≡ after (first ++ a ∷ []) rest
after_one first a (Ok more) = ap Ok (sym (append_assoc first (a ∷ []) more))
after_one first a (Err f) = refl

-- the values from place i on: the one that stands there, and those behind it
pub front : {V : Type 0} (vs : List V) (i : ℕ) (v : V) → i < length vs → v ≡ get_or vs i v → drop i vs ≡ v ∷ drop (i + 1) vs
front vs i v h is = drop_more vs i v h ∙ ap (λ x. x ∷ drop (i + 1) vs) (sym is)

-- a test of a list, by the value that stands at place i
pub any_next : {V : Type 0} (any : List V → Bool) (p : V → Bool) → ((v : V) (vs : List V) → any (v ∷ vs) ≡ (p v || any vs))
    → (vs : List V) (i : ℕ) (v : V) (b : Bool) → drop i vs ≡ v ∷ drop (i + 1) vs → any vs ≡ any (drop i vs) → b ≡ p v
    → any vs ≡ (b || any (drop (i + 1) vs))
any_next any p split vs i v b e so_far is =
    so_far ∙ ap any e ∙ split v (drop (i + 1) vs) ∙ ap (λ t. t || any (drop (i + 1) vs)) (sym is)

-- F gives what the values from a place on give, each of which gives what g says
module _ {V A : Type 0} (F : ℕ → List V → Result (List A) IntakeFault) (g : V → Result A ℕ)
    (step : (place : ℕ) (v : V) (vs : List V) → F place (v ∷ vs) ≡ given_before place (g v) (F (place + 1) vs)) where
  -- one more entry is read
  pub given_next : (vs : List V) (first : List A) (i : ℕ) (v : V) (a : A) → i < length vs → v ≡ get_or vs i v → g v ≡ Ok a
      → F 1 vs ≡ after first (F (i + 1) (drop i vs))
      → F 1 vs ≡ after (first ++ a ∷ []) (F (i + 1 + 1) (drop (i + 1) vs))
  given_next vs first i v a h is good so_far =
      so_far ∙ ap (λ rest. after first (F (i + 1) rest)) (front vs i v h is)
      ∙ ap (λ rest. after first rest) (step (i + 1) v (drop (i + 1) vs))
      ∙ ap (λ given. after first (given_before (i + 1) given (F (i + 1 + 1) (drop (i + 1) vs)))) good
      ∙ after_one first a (F (i + 1 + 1) (drop (i + 1) vs))

  -- the first faulty entry
  pub given_faulty : (vs : List V) (first : List A) (i : ℕ) (v : V) (which : ℕ) → i < length vs → v ≡ get_or vs i v → g v ≡ Err which
      → F 1 vs ≡ after first (F (i + 1) (drop i vs))
      → F 1 vs ≡ Err (fault which (i + 1))
  given_faulty vs first i v which h is bad so_far =
      so_far ∙ ap (λ rest. after first (F (i + 1) rest)) (front vs i v h is)
      ∙ ap (λ rest. after first rest) (step (i + 1) v (drop (i + 1) vs))
      ∙ ap (λ given. after first (given_before (i + 1) given (F (i + 1 + 1) (drop (i + 1) vs)))) bad
