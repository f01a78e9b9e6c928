-- What bytes are as a text, and what a text reads as.
use Rattle.std.proofs.Common.{◌≡◌, ◌≤◌, ◌<◌, ℕ, List, length, Bool, true, false, Option, Some, None, Result, Ok, Err, refl, arith, nat_lt}
use Rattle.std.proofs.lemmas.Bool.Decides.{nat_tests}
use Rattle.std.proofs.lemmas.Str.{IsUtf8-from_is_utf8, is_utf8-from_IsUtf8}
use Rattle.std.specs.Prelude.{IsUtf8}
use Rattle.std.specs.Str.{is_utf8}
use Rattle.mx_intake.specs.Fault.{fault}
use Rattle.mx_intake.specs.Text.{text_of_bytes, reading_of}
use Rattle.mx_intake.specs.declared.fault.IntakeFault.{IntakeFault}

not_utf8_at : (bs : List ℕ) (b : Bool) → is_utf8 bs ≡ b → (IsUtf8 bs → ⊥) → b ≡ false
not_utf8_at bs true e fails = absurd (fails (IsUtf8-from_is_utf8 bs e))
not_utf8_at bs false e fails = refl

not_utf8 : (bs : List ℕ) → (IsUtf8 bs → ⊥) → is_utf8 bs ≡ false
not_utf8 bs fails = not_utf8_at bs (is_utf8 bs) refl fails

not_long : (n : ℕ) → n ≤ 8388608 → nat_lt 8388608 n ≡ false
not_long n h = grind (arith, nat_tests)

long : (n : ℕ) → 8388608 < n → nat_lt 8388608 n ≡ true
long n h = grind (arith, nat_tests)

pub text_of_bytes-long : (bs : List ℕ) → 8388608 < length bs → text_of_bytes bs ≡ Err (fault 67 0)
unfolding text_of_bytes
text_of_bytes-long bs h = rw (long (length bs) h)

pub text_of_bytes-no_text : (bs : List ℕ) → length bs ≤ 8388608 → (IsUtf8 bs → ⊥) → text_of_bytes bs ≡ Err (fault 61 0)
unfolding text_of_bytes
text_of_bytes-no_text bs h fails = rw (not_long (length bs) h, not_utf8 bs fails)

pub text_of_bytes-text : (bs : List ℕ) → length bs ≤ 8388608 → IsUtf8 bs → text_of_bytes bs ≡ Ok bs
unfolding text_of_bytes
text_of_bytes-text bs h t = rw (not_long (length bs) h, is_utf8-from_IsUtf8 bs t)

-- a text that has a reading, one that has none, and bytes that are no text
pub reading_of-read : {A : Type 0} (read : List ℕ → Option A) (given : Result (List ℕ) IntakeFault) (text : List ℕ) (a : A) → given ≡ Ok text → read text ≡ Some a → reading_of read given ≡ Ok a
reading_of-read read given text a e h = rw (e, h)

pub reading_of-refused : {A : Type 0} (read : List ℕ → Option A) (given : Result (List ℕ) IntakeFault) (text : List ℕ) → given ≡ Ok text → read text ≡ None → reading_of read given ≡ Err (fault 61 0)
reading_of-refused read given text e h = rw (e, h)

pub reading_of-fault : {A : Type 0} (read : List ℕ → Option A) (given : Result (List ℕ) IntakeFault) (f : IntakeFault) → given ≡ Err f → reading_of read given ≡ Err f
reading_of-fault read given f e = rw e
