-- The least number that passes a test, and its search up to a greatest.
use Rattle.std.proofs.Common.{◌≡◌, ℕ, ◌+◌, ◌*◌, ◌≤◌, ◌<◌, zero, suc, Bool, true, false, cond, refl, ap, ◌∙◌, Some, None, arith}
use Rattle.std.specs.Prelude.{pos, nat_le, int_le, ◌-ℤ◌}
use Rattle.std.proofs.lemmas.Int.{ints}
use Rattle.std.proofs.lemmas.Bool.Decides.{nat_tests}
use Rattle.mx_book.specs.due.Left.{left_until}
use Rattle.mx_book.specs.due.Reach.{reaches, IsLeast, least_from, least_up_to}

module _ (test : ℕ → Bool) where
  found_at : (k more n : ℕ) (b : Bool) → test k ≡ b → IsLeast test n → k ≤ n → (k + 1 ≤ n → least_from test (k + 1) more ≡ Some n) → cond b (Some k) (least_from test (k + 1) more) ≡ Some n
  found_at k more n true e h low later = let same : k ≡ n = omega (arith, h.least k e) in ap (λ m. Some m) same
  found_at k more n false e h low later = later (above k n e h low)
    where
      differs : (k n : ℕ) → test k ≡ false → IsLeast test n → k ≡ n → ⊥
      differs k n e h s = let t : test k ≡ true = ap test s ∙ h.passes in (cc)

      above : (k n : ℕ) → test k ≡ false → IsLeast test n → k ≤ n → k + 1 ≤ n
      above k n e h low = omega (arith, differs k n e h)

  least_found : (more k n : ℕ) → IsLeast test n → k ≤ n → n < k + more → least_from test k more ≡ Some n
  least_found zero k n h low high = absurd (omega arith)
  least_found (suc more) k n h low high = found_at k more n (test k) refl h low (λ lower. least_found more (k + 1) n h lower (omega arith))

  none_found : (more k : ℕ) → ((m : ℕ) → m < k + more → test m ≡ false) → least_from test k more ≡ None
  none_found zero k h = refl
  none_found (suc more) k h =
      ap (λ b. cond b (Some k) (least_from test (k + 1) more)) (h k (omega arith)) ∙ none_found more (k + 1) (λ m below. h m (omega arith))

  pub up_to_some : (greatest n : ℕ) → IsLeast test n → n ≤ greatest → least_up_to greatest test ≡ Some n
  up_to_some greatest n h low = least_found (greatest + 1) 0 n h (omega arith) (omega arith)

  pub up_to_none : (greatest : ℕ) → ((m : ℕ) → test m ≡ false) → least_up_to greatest test ≡ None
  up_to_none greatest h = none_found (greatest + 1) 0 (λ m below. h m)

  above_fails : (m n : ℕ) (b : Bool) → test m ≡ b → IsLeast test n → m < n → b ≡ false
  above_fails m n true e h below = absurd (omega (arith, h.least m e))
  above_fails m n false e h below = refl

  pub up_to_less : (greatest n : ℕ) → IsLeast test n → greatest < n → least_up_to greatest test ≡ None
  up_to_less greatest n h above = none_found (greatest + 1) 0 (λ m below. above_fails m n (test m) refl h (omega arith))

pub reaches_due : (rate now due n : ℕ) → reaches rate (left_until now due) n ≡ nat_le due (now + n * rate)
reaches_due rate now due n = at (n * rate)
  where
    at : (more : ℕ) → int_le (pos due -ℤ pos now) (pos more) ≡ nat_le due (now + more)
    at more = grind (arith, ints, nat_tests)
