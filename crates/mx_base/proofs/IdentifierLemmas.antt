-- How an identifier lies in its array.
use Rattle.std.proofs.Common.{◌≡◌, ℕ, ◌+◌, ◌-◌, Bool, List, ◌++◌, length, take, replicate, IsUtf8, refl, sym, ap, ◌∙◌, arith, take_at, length-append, subst}
use Rattle.std.specs.Prelude.{Result, Ok, Err, MatchResult, IsOk}
use Rattle.std.proofs.lemmas.List.{length-replicate}
use Rattle.mx_base.specs.Identifier.{IsIdentifier, IsKept}

-- a call that names a false fact at its error is right
pub IsOk-from_no_err : {T E : Type 0} (r : Result T E) (P : T → Type 0) (Q : E → Type 0) → MatchResult r P Q → ((e : E) → Q e → ⊥) → IsOk r
IsOk-from_no_err (Ok v) P Q m never = refl
IsOk-from_no_err (Err e) P Q m never = absurd (never e m)

-- a text and the zeros behind it are a kept identifier
pub IsKept-padded : (allows : ℕ → Bool) (most : ℕ) (text bytes : List ℕ) → IsIdentifier allows most text → IsUtf8 text → bytes ≡ text ++ replicate (most - length text) 0 → IsKept allows most (length text) bytes
IsKept-padded allows most text bytes name utf8 e =
    let front : take (length text) bytes ≡ text = ap (take (length text)) e ∙ take_at text (replicate (most - length text) 0) (length text) refl in
    let size : length bytes ≡ length text + length (replicate {A = ℕ} (most - length text) 0) = ap length e ∙ length-append text (replicate (most - length text) 0) in
    let zeros : length (replicate {A = ℕ} (most - length text) 0) ≡ most - length text = length-replicate (most - length text) 0 in
    record {
      name = subst (IsIdentifier allows most) (sym front) name;
      within = name.1;
      padded = e ∙ ap (λ l. l ++ replicate (most - length text) 0) (sym front);
      whole = omega (arith, size, zeros, name.1);
      text = ∣ subst IsUtf8 (sym front) utf8 ∣₁;
    }
