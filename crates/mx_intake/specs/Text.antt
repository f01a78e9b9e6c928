-- The text of an input, and what it is read as.
use Rattle.std.specs.Prelude.{ℕ, List, length, nat_lt, Option, Some, None, Result, Ok, Err, if◌then◌else◌}
use Rattle.std.specs.Str.{is_utf8}
use Rattle.mx_intake.specs.declared.fault.IntakeFault.{IntakeFault}
use Rattle.mx_intake.specs.declared.fault.TheConstants.{NOT_TEXT, TOO_LONG}
use Rattle.mx_intake.specs.declared.text.TheConstants.{MOST_BYTES}
use Rattle.mx_intake.specs.Fault.{fault}

-- the text of an input: at most 8,388,608 bytes of UTF-8
unfoldable pub text_of_bytes : List ℕ → Result (List ℕ) IntakeFault
text_of_bytes bytes =
    if nat_lt MOST_BYTES (length bytes) then Err (fault TOO_LONG 0)
    else if is_utf8 bytes then Ok bytes
    else Err (fault NOT_TEXT 0)

-- what a text is read as, where it has a reading
abbrev pub if_reading : {A : Type 0} → Option A → Result A IntakeFault
if_reading None = Err (fault NOT_TEXT 0)
if_reading (Some a) = Ok a

-- what a text is read as, if there is a text
abbrev pub reading_of : {A : Type 0} → (List ℕ → Option A) → Result (List ℕ) IntakeFault → Result A IntakeFault
reading_of read (Ok text) = if_reading (read text)
reading_of read (Err f) = Err f
