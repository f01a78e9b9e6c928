-- How the digits of a number are read one after another.
use Rattle.std.proofs.Common.{◌≡◌, ◌≤◌, ◌<◌, ◌+◌, ◌^◌, ◌&&◌, ℕ, List, [], ◌∷◌, if◌then◌else◌, ◌==◌, length, drop, get_or, Bool, true, false, Some, None, nat_le, refl, ◌∙◌, arith}
use Rattle.std.proofs.lemmas.Bool.{eqb-true}
use Rattle.std.proofs.lemmas.Bool.Decides.{nat_tests}
use Rattle.std.proofs.lemmas.List.{drop_all, drop_more}
use Rattle.std.specs.Char.{is_ascii_digit}
use Rattle.std.specs.List.{list_all}
use Rattle.std.specs.Str.Parse.{digits_value, digits_value_after}
use Rattle.mx_intake.specs.Number.{number_of_digits}

-- the first i bytes are digits, which write this number
pub record Reads (bytes : List ℕ) (i number : ℕ) : Type 0 where
  pub digits : list_all is_ascii_digit bytes ≡ list_all is_ascii_digit (drop i bytes)
  pub value : digits_value 10 bytes ≡ digits_value_after 10 number (drop i bytes)
  pub below : number < 10 ^ i

-- a byte that is no digit
pub reads_other : (bytes : List ℕ) (i n c : ℕ) → i < length bytes → c ≡ get_or bytes i 0 → is_ascii_digit c ≡ false → Reads bytes i n
    → number_of_digits bytes ≡ None
unfolding number_of_digits
reads_other bytes i n c h is other r =
    let front : drop i bytes ≡ get_or bytes i 0 ∷ drop (i + 1) bytes = drop_more bytes i 0 h in
    let no : list_all is_ascii_digit bytes ≡ false = r.digits ∙ rw (front, ← is, other) refl in
    rw no (by (nat_le 1 (length bytes)) (nat_le (length bytes) 6))
  where
    by : (a b : Bool) → (if a && (b && false) then Some (digits_value 10 bytes) else None) ≡ None
    by true true = refl
    by true false = refl
    by false b = refl

-- too few bytes, or too many
pub some_digits : (bytes : List ℕ) → length bytes == 0 ≡ false → 1 ≤ length bytes
some_digits [] h = cc h
some_digits (c ∷ bytes) h = omega arith

pub no_digits : (bytes : List ℕ) → length bytes == 0 ≡ true → number_of_digits bytes ≡ None
unfolding number_of_digits
no_digits [] h = refl
no_digits (c ∷ bytes) h = let none = eqb-true (length (c ∷ bytes)) 0 h in absurd (omega (arith, none))

pub many_digits : (bytes : List ℕ) → 6 < length bytes → number_of_digits bytes ≡ None
unfolding number_of_digits
many_digits bytes h =
    let many : nat_le (length bytes) 6 ≡ false = grind (arith, nat_tests) in
    by (nat_le 1 (length bytes)) many
  where
    by : (a : Bool) → nat_le (length bytes) 6 ≡ false → (if a && (nat_le (length bytes) 6 && list_all is_ascii_digit bytes) then Some (digits_value 10 bytes) else None) ≡ None
    by true many = rw many refl
    by false many = refl

-- all bytes are read
pub reads_all : (bytes : List ℕ) (i n : ℕ) → length bytes ≤ i → 1 ≤ length bytes → length bytes ≤ 6 → Reads bytes i n → number_of_digits bytes ≡ Some n
unfolding number_of_digits
reads_all bytes i n h some most r =
    let none : drop i bytes ≡ [] = drop_all i bytes h in
    let digits : list_all is_ascii_digit bytes ≡ true = r.digits ∙ rw none refl in
    let value : digits_value 10 bytes ≡ n = r.value ∙ rw none refl in
    let enough : nat_le 1 (length bytes) ≡ true = grind (arith, nat_tests) in
    let few_enough : nat_le (length bytes) 6 ≡ true = grind (arith, nat_tests) in
    rw (enough, few_enough, digits, value) refl
