-- The text of a sector's document is a document.
use Rattle.std.proofs.Common.{◌≡◌, ℕ, ◌<◌, ◌^◌, List, [], ◌∷◌, ◌++◌, Bool, true, ◌&&◌, refl, ap, ◌∙◌, arith, length-append}
use Rattle.std.specs.Prelude.{nat_le}
use Rattle.std.specs.List.{list_all}
use Rattle.std.specs.Fmt.{decimal}
use Rattle.std.proofs.lemmas.Bool.Decides.{nat_tests}
use Rattle.std.proofs.lemmas.List.Folds.{list_all-append}
use Rattle.std.proofs.lemmas.Fmt.{digits_decimal, length-decimal-le}
use Rattle.std.proofs.lemmas.Str.Parse.{IsDigitsTest, numerals_by_value}
use Rattle.mx_base.specs.Identifier.{IsIdentifier, is_graphic, is_tail_character}
use Rattle.mx_book.specs.commands.Shape.{sector_doc, sector_shape}
use Rattle.mx_book.specs.declared.commands.sector.Sector.{Sector}
use Rattle.mx_book.proofs.CommandsProofs.ShapeLemmas.{both_true}

is_digit : ℕ → Bool
is_digit c = nat_le 48 c && nat_le c 57

AreDigits : List ℕ → Type 0
AreDigits ds = list_all is_digit ds ≡ true

and_of : (p q : Bool) → p ≡ true → q ≡ true → p && q ≡ true
and_of p q h k = ap (λ b. b && q) h ∙ k

digits_test : IsDigitsTest AreDigits
unfolding AreDigits is_digit
digits_test = record {
  empty = refl;
  parts = λ c cs h. let b = both_true (nat_le 48 c && nat_le c 57) (list_all is_digit cs) h in ((grind (arith, nat_tests), grind (arith, nat_tests)), b.1);
  more = λ c cs r h. and_of (nat_le 48 c && nat_le c 57) (list_all is_digit cs) (grind (arith, nat_tests)) h;
}

digit_is_graphic : (c : ℕ) → is_digit c ≡ true → is_graphic c ≡ true
unfolding is_digit
digit_is_graphic c h = grind (arith, nat_tests)

-- characters that pass a test which only graphic ones pass are graphic
all_graphic : (test : ℕ → Bool) → ((c : ℕ) → test c ≡ true → is_graphic c ≡ true) → (cs : List ℕ) → list_all test cs ≡ true → list_all is_graphic cs ≡ true
all_graphic test each [] h = refl
all_graphic test each (c ∷ cs) h =
    let b = both_true (test c) (list_all test cs) h in
    and_of (is_graphic c) (list_all is_graphic cs) (each c b.0) (all_graphic test each cs b.1)

-- a decimal number is made of graphic characters
decimal_is_graphic : (n : ℕ) → n < 2 ^ 64 → list_all is_graphic (decimal n) ≡ true
unfolding AreDigits
decimal_is_graphic n h = all_graphic is_digit digit_is_graphic (decimal n) (digits_decimal (numerals_by_value AreDigits digits_test) n h)

tail_character_is_graphic : (c : ℕ) → is_tail_character c ≡ true → is_graphic c ≡ true
tail_character_is_graphic c h = grind (arith, nat_tests)

graphic_append : (xs ys : List ℕ) → list_all is_graphic xs ≡ true → list_all is_graphic ys ≡ true → list_all is_graphic (xs ++ ys) ≡ true
graphic_append xs ys h k = list_all-append is_graphic xs ys ∙ and_of (list_all is_graphic xs) (list_all is_graphic ys) h k

page_bound : (s : Sector) → sector_shape s ≡ true → s.page < 1000000
page_bound s h = grind (arith, nat_tests)

line_bound : (s : Sector) → sector_shape s ≡ true → s.line < 100
line_bound s h = grind (arith, nat_tests)

-- the document of a sector of its shape is a text of a document
pub sector_doc-IsIdentifier : (s : Sector) → IsIdentifier is_tail_character 8 s.tail → sector_shape s ≡ true → IsIdentifier is_graphic 40 (sector_doc s)
sector_doc-IsIdentifier s tail shape =
    let page = page_bound s shape in
    let line = line_bound s shape in
    let page_text = length-decimal-le 6 s.page (omega arith) (omega arith) (omega arith) in
    let line_text = length-decimal-le 2 s.line (omega arith) (omega arith) (omega arith) in
    let numbers : list_all is_graphic (decimal s.page ++ 47 ∷ decimal s.line) ≡ true =
    graphic_append (decimal s.page) (47 ∷ decimal s.line) (decimal_is_graphic s.page (omega arith)) (decimal_is_graphic s.line (omega arith)) in
    let size = length-append s.tail (47 ∷ (decimal s.page ++ 47 ∷ decimal s.line)) in
    let numbers_size = length-append (decimal s.page) (47 ∷ decimal s.line) in (
      omega arith,
      omega (arith, size, numbers_size, page_text, line_text, tail.1),
      graphic_append s.tail (47 ∷ (decimal s.page ++ 47 ∷ decimal s.line)) (all_graphic is_tail_character tail_character_is_graphic s.tail tail.2) numbers,
    )
