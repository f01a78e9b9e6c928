-- Identifiers.
use Rattle.std.specs.Prelude.{◌≡◌, ℕ, ◌-◌, ◌≤◌, Bool, ◌&&◌, ◌||◌, nat_le, ◌==◌, List, ◌++◌, length, take, replicate, IsTrue, IsUtf8}
use Rattle.std.specs.List.{list_all}
use Rattle.std.proofs.Common.{sym, ap, ◌∙◌, arith, length-take-le}

-- from ! to ~: the printable ASCII characters other than space
abbrev pub is_graphic : ℕ → Bool
is_graphic b = nat_le 33 b && nat_le b 126

-- A to Z, 0 to 9 and -
abbrev pub is_tail_character : ℕ → Bool
is_tail_character b = (nat_le 65 b && nat_le b 90) || (nat_le 48 b && nat_le b 57) || (b == 45)

-- a text of 1 to `most` bytes, each of which the alphabet allows
abbrev pub IsIdentifier : (ℕ → Bool) → ℕ → List ℕ → Type 0
IsIdentifier allows most text =
    (1 ≤ length text) × (length text ≤ most) × IsTrue (list_all allows text)

-- how an identifier lies in its array: the text, and zeros behind it
pub record IsKept (allows : ℕ → Bool) (most len : ℕ) (bytes : List ℕ) : Type 0 where
  pub name : IsIdentifier allows most (take len bytes)
  pub within : len ≤ most
  pub padded : bytes ≡ take len bytes ++ replicate (most - len) 0
  pub whole : length bytes ≡ most
  pub text : ∥ IsUtf8 (take len bytes) ∥₁

pub kept_len : (allows : ℕ → Bool) (most len : ℕ) (bytes : List ℕ) → IsKept allows most len bytes → length (take len bytes) ≡ len
kept_len allows most len bytes h =
    let k : len ≤ length bytes = omega (arith, h.within, h.whole) in length-take-le len bytes k

pub kept_bytes : (allows : ℕ → Bool) (most len : ℕ) (bytes : List ℕ) → IsKept allows most len bytes → take len bytes ++ replicate (most - length (take len bytes)) 0 ≡ bytes
kept_bytes allows most len bytes h =
    ap (λ n. take len bytes ++ replicate (most - n) 0) (kept_len allows most len bytes h) ∙ sym h.padded
