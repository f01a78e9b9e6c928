-- What stands in a column that may be empty, and in one that says whether.
use Rattle.std.specs.Prelude.{ℕ, pos, Bool, List, Option, if◌then◌else◌}
use Rattle.sqlite.specs.declared.types.Value.{Value}
use Rattle.sqlite.specs.declared.types.Value.TheVariants.{Int, Text}
use Rattle.sqlite.specs.Values.{or_null}

-- the number, or NULL where there is none
abbrev pub number_or_null : Option ℕ → Value
number_or_null = or_null (λ n. Int (pos n))

-- the text, or NULL where there is none
abbrev pub text_or_null : Option (List ℕ) → Value
text_or_null = or_null Text

-- 1 where it is so, and 0 where it is not
abbrev pub flag : Bool → Value
flag b = Int (if b then pos 1 else pos 0)
