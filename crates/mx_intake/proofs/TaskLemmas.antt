-- What a text says that a task is done on, and the minutes of hours.
use Rattle.std.proofs.Common.{◌≡◌, ◌<◌, ◌^◌, ℕ, List, length, drop, true, false, cond, Option, Some, None, option_map, MatchOption, Bor, sym, ap, subst, ◌∙◌, arith, nat_lt}
use Rattle.std.specs.Prelude.{SomeIff}
use Rattle.std.specs.Str.{IsCharBoundary}
use Rattle.std.specs.Str.Pattern.{FindsTextPrefix, StripsPrefix}
use Rattle.std.proofs.lemmas.Bool.Decides.{nat_tests}
use Rattle.std.proofs.lemmas.Str.Pattern.{starts_text}
use Rattle.mx_intake.specs.Keys.{if_small}
use Rattle.mx_intake.specs.Tasks.{behind}

-- what a text gives without its prefix
pub behind-strip_prefix : (prefix text : List ℕ) (r : Option (Bor (List ℕ))) → MatchOption r (FindsTextPrefix prefix text None) (λ x. StripsPrefix (FindsTextPrefix prefix) text x.now) → option_map (λ t. t.now) r ≡ behind prefix text
behind-strip_prefix prefix text None h = ap (λ b. cond b (Some (drop (length prefix) text)) None) (starts_text false prefix text h)
behind-strip_prefix prefix text (Some x) h =
    let Boundary : ℕ → Type 0 = λ k. IsCharBoundary text k in
    let at_end : IsCharBoundary text h.0 = subst Boundary (sym h.1.0) h.1.2 in
    ap Some (h.2 ∙ ap (λ k. drop k text) h.1.0)
    ∙ ap (λ b. cond b (Some (drop (length prefix) text)) None) (starts_text true prefix text (h.0, h.1, at_end))

-- the minutes, where they are below the limit
pub if_small-by : (n : ℕ) (r : Option ℕ) → SomeIff r (n < 2 ^ 32) n → r ≡ if_small n
if_small-by n None h = let big : nat_lt n (2 ^ 32) ≡ false = grind (arith, nat_tests) in rw big
if_small-by n (Some m) h = let small : nat_lt n (2 ^ 32) ≡ true = grind (arith, nat_tests) in rw small (ap Some h.1)
