-- What an entry gives by its form: what it states, or the least of its faults.
use Rattle.std.specs.Prelude.{ℕ, List, Bool, true, false, Option, Some, None, option_and_then, Result, Ok, Err, if◌then◌else◌}
use Rattle.mx_book.specs.commands.Act.{Entry, act_of}
use Rattle.mx_book.specs.commands.Shape.{has_shape}
use Rattle.mx_book.specs.declared.commands.body.Body.{Body}
use Rattle.mx_intake.specs.declared.fault.TheConstants.{MISSING, BAD_VALUE, UNKNOWN_KEY, BAD_SHAPE}

-- what follows from a value, where that can be read
abbrev pub if_read : {A B : Type 0} → Option A → (A → Option B) → Option B
if_read value next = option_and_then next value

-- what an entry states, where it has its shape
abbrev pub if_shaped : {A : Type 0} → (A → Bool) → A → Result A ℕ
if_shaped shape a = if shape a then Ok a else Err BAD_SHAPE

-- what an entry gives: whether it lacks a key, what it states where all its values can be read, whether it has another key
abbrev pub by_form : {A : Type 0} → (A → Bool) → Bool → Option A → Bool → Result A ℕ
by_form shape true stated other = Err MISSING
by_form shape false None other = Err BAD_VALUE
by_form shape false (Some a) true = Err UNKNOWN_KEY
by_form shape false (Some a) false = if_shaped shape a

-- the command that an entry gives
abbrev pub entry_by_form : Bool → Option Entry → Bool → Result Entry ℕ
entry_by_form = by_form has_shape

-- the command of an entry, unless two of its keys exclude each other
abbrev pub if_keys_agree : Bool → Result Entry ℕ → Result Entry ℕ
if_keys_agree exclude (Err which) = Err which
if_keys_agree exclude (Ok e) = if exclude then Err BAD_SHAPE else Ok e

-- a document and what is said by it
abbrev pub entry_of : List ℕ × Body → Entry
entry_of stated = record { doc = stated.0; act = act_of stated.1 }
