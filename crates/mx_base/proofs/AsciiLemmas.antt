-- The texts of days and moments are ASCII.
use Rattle.std.proofs.Common.{ℕ, zero, suc, ◌+◌, ◌/◌, ◌%◌, ◌<◌, ◌≤◌, List, [], ◌∷◌, arith, IsUtf8}
use Rattle.std.specs.Str.{IsAscii}
use Rattle.std.proofs.lemmas.Str.{IsUtf8-from_ascii}
use Rattle.std.proofs.lemmas.Str.Ascii.{IsAscii-nil}
use Rattle.mx_base.specs.Calendar.{date_of}
use Rattle.mx_base.specs.Texts.{day_text, moment_text}
use Rattle.mx_base.proofs.CalendarLemmas.{HasSmallParts-date_of}

-- each byte is ASCII
record AsciiText (bytes : List ℕ) : Type 0 where
  each : IsAscii bytes

none : AsciiText []
none = record { each = IsAscii-nil }

ascii_at : (c : ℕ) (cs : List ℕ) → c < 128 → IsAscii cs → IsAscii (c ∷ cs)
ascii_at c cs h rest zero = h
ascii_at c cs h rest (suc i) = rest i

byte : (c : ℕ) {cs : List ℕ} → c < 128 → AsciiText cs → AsciiText (c ∷ cs)
byte c {cs} h rest = record { each = ascii_at c cs h rest.each }

digits : (n : ℕ) {cs : List ℕ} → n < 100 → AsciiText cs → AsciiText ((48 + n / 10) ∷ (48 + n % 10) ∷ cs)
digits n h rest = byte (48 + n / 10) (omega arith) (byte (48 + n % 10) (omega arith) rest)

-- the text of a moment is UTF-8
pub moment_text-IsUtf8 : (m : ℕ) → m ≤ 120968639 → IsUtf8 (moment_text m)
unfolding moment_text day_text
moment_text-IsUtf8 m h =
    let small = HasSmallParts-date_of (m / 1440) (omega arith) in
    let text : AsciiText (moment_text m) =
    digits ((date_of (m / 1440)).year / 100) (omega (arith, small.0)) (digits ((date_of (m / 1440)).year % 100) (omega arith) (byte 45 (omega arith)
    (digits (date_of (m / 1440)).month small.1 (byte 45 (omega arith) (digits (date_of (m / 1440)).day small.2 (byte 84 (omega arith)
    (digits (m % 1440 / 60) (omega arith) (byte 58 (omega arith) (digits (m % 1440 % 60) (omega arith) none))))))))) in
    IsUtf8-from_ascii (moment_text m) text.each
