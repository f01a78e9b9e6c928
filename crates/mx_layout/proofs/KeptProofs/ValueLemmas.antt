-- What stands in a column is stored as it is, where it may be empty too, and tells what is kept there.
use Rattle.std.proofs.Common.{◌≡◌, ◌==◌, ◌+◌, ℕ, pos, Bool, true, false, Option, Some, None, List, [], refl}
use Rattle.sqlite.specs.Kind.TheVariants as kind
use Rattle.sqlite.specs.Cast.{cast}
use Rattle.sqlite.specs.Order.{Row, column}
use Rattle.sqlite.specs.declared.types.Value.{Value}
use Rattle.sqlite.specs.declared.types.Value.TheVariants.{Int, Text}
use Rattle.mx_base.specs.declared.amounts.Limit.{Limit}
use Rattle.mx_layout.proofs.RowLemmas.{cast_int, cast_null}
use Rattle.mx_layout.specs.kept.Keys.{number_of}
use Rattle.mx_layout.specs.kept.Values.{number_or_null, text_or_null, flag}

pub cast-number_or_null : (o : Option ℕ) → cast kind.Integer (number_or_null o) ≡ number_or_null o
cast-number_or_null None = cast_null
cast-number_or_null (Some n) = cast_int _

pub cast-text_or_null : (o : Option (List ℕ)) → cast kind.Text (text_or_null o) ≡ text_or_null o
cast-text_or_null None = refl
cast-text_or_null (Some t) = refl

-- ── what is kept, by the values of a row ──

abbrev pub number_if : Value → Option ℕ
number_if (Int (pos n)) = Some n
number_if _ = None

abbrev text_of : Value → List ℕ
text_of (Text text) = text
text_of _ = []

abbrev text_if : Value → Option (List ℕ)
text_if (Text text) = Some text
text_if _ = None

abbrev is_one : Value → Bool
is_one value = number_of value == 1

abbrev pub number_at : Row → ℕ → ℕ
number_at row at = number_of (column row at)

abbrev pub number_if_at : Row → ℕ → Option ℕ
number_if_at row at = number_if (column row at)

abbrev pub text_at : Row → ℕ → List ℕ
text_at row at = text_of (column row at)

abbrev pub text_if_at : Row → ℕ → Option (List ℕ)
text_if_at row at = text_if (column row at)

abbrev pub flag_at : Row → ℕ → Bool
flag_at row at = is_one (column row at)

-- a limit by its three columns
abbrev pub limit_of : Value → Value → Value → Limit
limit_of minutes cycles days = record { minutes = number_if minutes; cycles = number_if cycles; days = number_if days }

abbrev pub limit_at : Row → ℕ → Limit
limit_at row at = limit_of (column row at) (column row (at + 1)) (column row (at + 2))

pub number_back : (o : Option ℕ) → number_if (number_or_null o) ≡ o
number_back None = refl
number_back (Some n) = refl

pub text_back : (o : Option (List ℕ)) → text_if (text_or_null o) ≡ o
text_back None = refl
text_back (Some text) = refl

pub flag_back : (b : Bool) → is_one (flag b) ≡ b
flag_back true = refl
flag_back false = refl

pub limit_back : (l : Limit) → limit_of (number_or_null l.minutes) (number_or_null l.cycles) (number_or_null l.days) ≡ l
limit_back l i = record { minutes = number_back l.minutes i; cycles = number_back l.cycles i; days = number_back l.days i }
