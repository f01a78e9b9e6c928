-- The number that a value writes, read digit by digit.
use Rattle.std.proofs.Common.{◌≡◌, ◌≤◌, ◌<◌, ◌+◌, ◌*◌, ℕ, List, [], ◌∷◌, map, true, false, nat_le, Err, refl, arith}
use Rattle.std.proofs.lemmas.Bool.Decides.{nat_tests}
use Rattle.std.specs.Char.{digit_value}
use Rattle.std.specs.Str.{str_eq_ignore_ascii_case}
use Rattle.std.specs.Str.Parse.{digits_value, digits_value_after}
use Rattle.httparse.specs.Spans.{span_bytes, header_bytes}
use Rattle.httparse.specs.declared.spans.HeaderSpan.{HeaderSpan}
use Rattle.mx_http.specs.request.Fields.{is_number, length_said, values_named}
use Rattle.mx_http.specs.declared.request.rejection.Rejection.TheVariants.{BodyTooLarge}

-- further digits make no number less
pub digits_value_after-le : (digits : List ℕ) (n : ℕ) → n ≤ digits_value_after 10 n digits
digits_value_after-le [] n = omega arith
digits_value_after-le (c ∷ digits) n =
    let more : n * 10 + digit_value c ≤ digits_value_after 10 (n * 10 + digit_value c) digits = digits_value_after-le digits (n * 10 + digit_value c) in
    omega arith

-- a number whose front is too large
pub too_large : (text rest : List ℕ) (n : ℕ) → is_number text ≡ true → digits_value 10 text ≡ digits_value_after 10 n rest → 65536 < n
    → Err BodyTooLarge ≡ length_said text
too_large text rest n number value many =
    let most : n ≤ digits_value_after 10 n rest = digits_value_after-le rest n in
    let large : nat_le (digits_value 10 text) 65536 ≡ false = rw value (grind (arith, nat_tests)) in
    rw (number, large) refl

-- a field of another name is passed over
pub passes_over : (buf name : List ℕ) (header : HeaderSpan) (rest later : List HeaderSpan) → rest ≡ header ∷ later
    → str_eq_ignore_ascii_case (span_bytes buf header.name) name ≡ false
    → values_named name (map (header_bytes buf) rest) ≡ values_named name (map (header_bytes buf) later)
passes_over buf name header rest later is other = rw (is, other) refl
