-- A number of few digits.
use Rattle.std.specs.Prelude.{ℕ, List, Bool, ◌&&◌, nat_le, Option, Some, None, length, if◌then◌else◌}
use Rattle.std.specs.Char.{is_ascii_digit}
use Rattle.std.specs.List.{list_all}
use Rattle.std.specs.Str.Parse.{digits_value}

-- 1 to 6 digits, and nothing else
abbrev pub has_few_digits : List ℕ → Bool
has_few_digits text = nat_le 1 (length text) && (nat_le (length text) 6 && list_all is_ascii_digit text)

-- the number that 1 to 6 digits write, zeros in front or not
unfoldable pub number_of_digits : List ℕ → Option ℕ
number_of_digits text = if has_few_digits text then Some (digits_value 10 text) else None
