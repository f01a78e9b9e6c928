-- The number that a word writes.
use Rattle.std.specs.Prelude.{ℕ, ◌^◌, ◌&&◌, List, Bool, Option, Some, None, nat_lt, if◌then◌else◌, length}
use Rattle.std.specs.Char.{is_ascii_digit}
use Rattle.std.specs.List.{list_all}
use Rattle.std.specs.Str.Parse.{digits_value}

-- the text is one digit or more, and 32 bits hold the number
abbrev pub is_number : List ℕ → Bool
is_number text = nat_lt 0 (length text) && (list_all is_ascii_digit text && nat_lt (digits_value 10 text) (2 ^ 32))

-- the number that a text writes
abbrev pub number_in : List ℕ → Option ℕ
number_in text = if is_number text then Some (digits_value 10 text) else None
