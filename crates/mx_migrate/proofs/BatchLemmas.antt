-- Rows that move from one table to another, at most 64 a commit: the last of them, and those that were handed in.
use Rattle.std.proofs.Common.{◌≡◌, ℕ, ◌-◌, suc, List, [], ◌∷◌, length, map, slice_get, Some, Option, sym, ap, ◌∙◌, arith, rules}
use Rattle.std.specs.Prelude.{Decides}
use Rattle.std.specs.Iterator.{AlwaysYields}
use Rattle.std.proofs.lemmas.Iterator.{YieldsList}
use Rattle.mx_base.specs.contracts.rows.rows.DeferralRowPartialEq.TheImpl as deferral
use Rattle.mx_base.specs.declared.rows.rows.DeferralRow.{DeferralRow}
use Rattle.mx_registers.specs.points.Moves.{last_moved}

pub last_is : {X : Type 0} (number : X → ℕ) (mark : ℕ) (rows : List X) (row : X) → slice_get rows (length rows - 1) ≡ Some row → number row ≡ last_moved number mark rows
last_is number mark [] row e = absurd cc
last_is number mark (x ∷ []) row e = let same : x ≡ row = cc in ap number (sym same)
last_is number mark (x ∷ y ∷ rows) row e =
    let one : length (x ∷ y ∷ rows) - 1 ≡ suc (length (y ∷ rows) - 1) = omega arith in
    last_is number (number x) (y ∷ rows) row (sym (ap (slice_get (x ∷ y ∷ rows)) one) ∙ e)

-- ── those that were handed in ──

-- what a run of calls gives, read by one more function
through : {S A B C : Type 0} (steps : S → Option A → S → Type 0) (v : A → B) (h : B → C) (ys : List B) (s : S) → AlwaysYields steps v s ys → AlwaysYields steps (λ a. h (v a)) s (map h ys)
through steps v h [] s e = e
through steps v h (y ∷ ys) s e = (e.0, λ x j p. (let more = e.1 x j p in (ap h more.0, through steps v h ys j more.1)))

pub read_through : {S A B C : Type 0} {steps : S → Option A → S → Type 0} {v : A → B} {s : S} {ys : List B} (h : B → C) → YieldsList steps v s ys → YieldsList steps (λ a. h (v a)) s (map h ys)
read_through {steps = steps} {v} {s} {ys} h e = record { runs = through steps v h ys s e.runs }

-- the test of two deferrals decides whether they are equal
pub deferral_same : (a b : DeferralRow) → Decides ((deferral.ghosts).eq a b) (a ≡ b)
deferral_same a b = search rules
