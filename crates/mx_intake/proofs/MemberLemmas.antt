-- A test of the keys of a map's entries.
use Rattle.std.proofs.Common.{◌≡◌, ℕ, List, [], ◌∷◌, Bool, false, ◌||◌, ap, ◌∙◌, map}
use Rattle.std.specs.List.{list_any}
use Rattle.std.specs.Prelude.{String, string_bytes}
use Rattle.std.specs.declared.alloc.Global.{Global}

-- what is one of the entries by their keys
pub any_entry : {V : Type 0} (test : List ℕ → Bool) (one : List (String Global × V) → Bool) → one [] ≡ false
    → ((e : String Global × V) (es : List (String Global × V)) → one (e ∷ es) ≡ (test (string_bytes e.0) || one es))
    → (es : List (String Global × V)) → one es ≡ list_any (λ k. test (string_bytes k)) (map (λ e. e.0) es)
any_entry test one none more [] = none
any_entry test one none more (e ∷ es) = more e es ∙ ap (λ b. test (string_bytes e.0) || b) (any_entry test one none more es)
