use Rattle.std.proofs.Common.{◌≡◌, ℕ, List, Bool, drop, map}
use Rattle.std.specs.Fn.{FnReturnsAt}
use Rattle.std.specs.List.{list_any}
use Rattle.mx_intake.proofs.keys.one_key.Given as goal

abbrev pub invariant-loop-key : goal.invariant-loop-key
invariant-loop-key g l =
    (passes : List ℕ → Bool) → ((key : List ℕ) (b : Bool) → FnReturnsAt g.F.Fn l.test key b → b ≡ passes key)
    → list_any passes (map (λ k. k.now) l.keys) ≡ list_any passes (map (λ k. k.now) (drop l.key-index l.keys))
