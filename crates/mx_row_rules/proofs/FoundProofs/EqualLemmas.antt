-- Lists of rows that are compared one by one.
use Rattle.std.proofs.Common.{◌≡◌, Bool, true, ◌&&◌, List, sym, subst, ap₂, IsTrue}
use Rattle.std.specs.Prelude.{Decides}
use Rattle.mx_book.proofs.JudgeLemmas.{both_true}
use lib.Pointwise.{pointwise, pointwise_decides}

-- they are the same where each comparison decides whether its rows are
pub equal_lists : {X : Type 0} (eq : X → X → Bool) (b : Bool) (xs ys : List X) → b ≡ pointwise eq xs ys → ((x y : X) → Decides (eq x y) (x ≡ y)) → (IsTrue b → xs ≡ ys) × (xs ≡ ys → IsTrue b)
equal_lists eq b xs ys e decides = subst (λ c. (IsTrue c → xs ≡ ys) × (xs ≡ ys → IsTrue c)) (sym e) (as_facts (pointwise eq xs ys) (pointwise_decides decides xs ys))
  where
    as_facts : (c : Bool) → (c ≡ true → xs ≡ ys) × (xs ≡ ys → c ≡ true) → (IsTrue c → xs ≡ ys) × (xs ≡ ys → IsTrue c)
    as_facts c d = d

-- ── what is compared part by part ──

pub both : {P Q : Type 0} (p q : Bool) → Decides p P → Decides q Q → Decides (p && q) (P × Q)
both p q dp dq = (λ h. let t = both_true p q h in (dp.0 t.0, dq.0 t.1), λ e. ap₂ ◌&&◌ (dp.1 e.0) (dq.1 e.1))

pub as_one : {P Q : Type 0} (b : Bool) → Decides b P → (P → Q) → (Q → P) → Decides b Q
as_one b d f g = (λ h. f (d.0 h), λ q. d.1 (g q))
