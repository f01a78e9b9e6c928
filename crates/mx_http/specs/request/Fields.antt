-- The fields of a head that say how long the body is (RFC 9112, section 6).
use Rattle.std.specs.Prelude.{ℕ, List, [], ◌∷◌, length, codes, Bool, ◌&&◌, nat_lt, nat_le, Result, Ok, Err, if◌then◌else◌}
use Rattle.std.specs.Char.{is_ascii_digit}
use Rattle.std.specs.List.{list_all}
use Rattle.std.specs.Str.{str_eq_ignore_ascii_case}
use Rattle.std.specs.Str.Parse.{digits_value}
use Rattle.mx_http.specs.declared.request.rejection.Rejection.{Rejection}
use Rattle.mx_http.specs.declared.request.rejection.Rejection.TheVariants.{BadRequest, LengthRequired, BodyTooLarge}
use Rattle.mx_http.specs.declared.request.length.TheConstants.{MOST_BODY}

-- the values of the fields of this name, in any ASCII case; a field is its name and its value
abbrev pub values_named : List ℕ → List (List ℕ × List ℕ) → List (List ℕ)
values_named name [] = []
values_named name (field ∷ fields) = if str_eq_ignore_ascii_case field.0 name then field.1 ∷ values_named name fields else values_named name fields

-- one or more digits, and nothing else
abbrev pub is_number : List ℕ → Bool
is_number text = nat_lt 0 (length text) && list_all is_ascii_digit text

-- the length that a value says: a number of at most 65,536
abbrev pub length_said : List ℕ → Result ℕ Rejection
length_said text = if is_number text then (if nat_le (digits_value 10 text) MOST_BODY then Ok (digits_value 10 text) else Err BodyTooLarge) else Err BadRequest

-- the length that the one value says
abbrev pub only_length : List (List ℕ) → Result ℕ Rejection
only_length [] = Err LengthRequired
only_length (text ∷ []) = length_said text
only_length (text ∷ _ ∷ _) = Err BadRequest

abbrev pub plain_length : List (List ℕ) → List (List ℕ) → Result ℕ Rejection
plain_length [] lengths = only_length lengths
plain_length (encoding ∷ _) lengths = Err LengthRequired

-- how long the body is, by the fields of the head: it has to be said once, and no transfer coding is taken
abbrev pub body_length : List (List ℕ × List ℕ) → Result ℕ Rejection
body_length fields = plain_length (values_named (codes "Transfer-Encoding") fields) (values_named (codes "Content-Length") fields)
