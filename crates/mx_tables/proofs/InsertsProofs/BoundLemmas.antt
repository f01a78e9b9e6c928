-- What is bound for the columns of a row, one by one.
use Rattle.std.proofs.Common.{◌≡◌, ℕ, List, [], ◌∷◌, Option, Some, None, refl, pos, ap, ap₂, ◌∙◌}
use Rattle.sqlite.specs.declared.types.Value.{Value}
use Rattle.sqlite.specs.declared.types.Value.TheVariants.{Int, Text}
use Rattle.sqlite.specs.Values.{bound_value, or_null}
use Rattle.sqlite.specs.Order.{Row}
use Rattle.mx_layout.specs.kept.Values.{number_or_null, text_or_null}

-- a column that may be empty
pub bound-number_or_null : (v : Value) (o : Option ℕ) → v ≡ or_null (λ n. Int (pos n)) o → bound_value v ≡ number_or_null o
bound-number_or_null v None is = ap bound_value is
bound-number_or_null v (Some n) is = ap bound_value is

pub bound-text_or_null : {S : Type 0} (text : S → List ℕ) (v : Value) (s : Option S) (o : Option (List ℕ)) → or_null (λ t. Text (text t)) s ≡ text_or_null o → v ≡ or_null (λ t. Text (text t)) s → bound_value v ≡ text_or_null o
bound-text_or_null text v s None same is = ap bound_value (is ∙ same)
bound-text_or_null text v s (Some t) same is = ap bound_value (is ∙ same)

-- the values of two rows are the same, one after another
abbrev pub AreSame : Row → Row → Type 0
AreSame [] [] = Unit {0}
AreSame [] (y ∷ ys) = ⊥
AreSame (x ∷ xs) [] = ⊥
AreSame (x ∷ xs) (y ∷ ys) = (x ≡ y) × AreSame xs ys

-- rows whose values are the same are one
pub one_by_one : (xs ys : Row) → AreSame xs ys → xs ≡ ys
one_by_one [] [] are = refl
one_by_one [] (y ∷ ys) are = absurd are
one_by_one (x ∷ xs) [] are = absurd are
one_by_one (x ∷ xs) (y ∷ ys) are = ap₂ ◌∷◌ are.0 (one_by_one xs ys are.1)
