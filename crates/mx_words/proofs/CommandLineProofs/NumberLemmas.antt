-- Lemmas on the number that a word writes.
use Rattle.std.proofs.Common.{◌≡◌, ℕ, ◌<◌, ◌^◌, List, length, true, false, Some, Result, Ok, Err, ap, arith, rules}
use Rattle.std.specs.Char.{is_ascii_digit}
use Rattle.std.specs.List.{list_all}
use Rattle.std.specs.Result.{result_ok, OkIff}
use Rattle.std.specs.Str.Parse.{digits_value, ParsesUnsigned}
use Rattle.std.proofs.lemmas.Bool.Decides.{nat_tests}
use Rattle.std.proofs.lemmas.Str.Parse.{IsNumeralModel, numerals_by_value, parse_digits}
use Rattle.mx_words.specs.command_line.Number.{number_in, is_number}

digits_model : IsNumeralModel (λ ds. list_all is_ascii_digit ds ≡ true) (digits_value 10)
digits_model = numerals_by_value _ (search rules)

number_told : (text : List ℕ) → list_all is_ascii_digit text ≡ true → 0 < length text → digits_value 10 text < 2 ^ 32 → is_number text ≡ true
number_told text digits some few = grind (arith, nat_tests)

number_denied : (text : List ℕ) → ¬ ((0 < length text) × (digits_value 10 text < 2 ^ 32)) → is_number text ≡ false
number_denied text none = grind (arith, nat_tests)

number_decided : {E : Type 0} → (text : List ℕ) (r : Result ℕ E) → list_all is_ascii_digit text ≡ true
    → OkIff r ((0 < length text) × (digits_value 10 text < 2 ^ 32)) (digits_value 10 text) → result_ok r ≡ number_in text
number_decided text (Ok number) digits (fits, same) = rw (number_told text digits fits.0 fits.1) (ap Some same)
number_decided text (Err error) digits refused = rw (number_denied text refused)

-- digits that are parsed are read as the number that they write
pub number_read : {E : Type 0} → (text : List ℕ) (r : Result ℕ E) → list_all is_ascii_digit text ≡ true → ParsesUnsigned 32 10 text r → result_ok r ≡ number_in text
number_read text r digits parsed = number_decided text r digits (parse_digits digits_model 32 text r parsed digits)
