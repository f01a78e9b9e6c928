-- Identifiers, days and moments as texts: each text is read where it is the text of one.
-- The definitions of JSON compute, so they need the day that a text names as a function. It counts the days of jiff's
-- calendar to the digits in their places, and takes that day where its printed text is the text that was read: the
-- digits only guess, the printed text decides, and there is one grammar. That every day and every moment is found so is
-- proved.
use Rattle.std.specs.Prelude.{ℕ, ◌+◌, ◌-◌, ◌*◌, List, length, slice_index, Bool, ◌&&◌, nat_le, Option, Some, None, option_and_then, if◌then◌else◌, pos, unsigned_abs}
use Rattle.std.specs.List.{list_all}
use Rattle.jiff_core.specs.Calendar.{days_from_civil}
use Rattle.serde_json.specs.Data.{Data}
use Rattle.mx_base.specs.Calendar.{last_day, last_moment}
use Rattle.mx_base.specs.Identifier.{is_graphic, is_tail_character}
use Rattle.mx_base.specs.Texts.{day_text, moment_text}
use Rattle.mx_book.specs.commands.Same.{same_text}
use Rattle.mx_intake.specs.Object.{text_at_key}

-- the identifier that a text is: 1 to `most` characters of the alphabet
abbrev pub identifier_of : (ℕ → Bool) → ℕ → List ℕ → Option (List ℕ)
identifier_of allows most text =
    if nat_le 1 (length text) && nat_le (length text) most && list_all allows text then Some text else None

-- the number that two digits write from a place of the text on
abbrev pub pair_at : List ℕ → ℕ → ℕ
pair_at text place = (slice_index text place - 48) * 10 + (slice_index text (place + 1) - 48)

-- the number of the day that the digits of YYYY-MM-DD name
unfoldable pub named_day : List ℕ → ℕ
named_day text =
    unsigned_abs (days_from_civil (pos (pair_at text 0 * 100 + pair_at text 2)) (pair_at text 5) (pair_at text 8))

-- the day whose text it is
unfoldable pub day_of_text : List ℕ → Option ℕ
day_of_text text =
    if nat_le (named_day text) last_day && same_text (day_text (named_day text)) text then Some (named_day text) else None

-- the number of the moment that the digits of YYYY-MM-DDTHH:MM name
unfoldable pub named_moment : List ℕ → ℕ
named_moment text = named_day text * 1440 + pair_at text 11 * 60 + pair_at text 14

-- the moment whose text it is
unfoldable pub moment_of_text : List ℕ → Option ℕ
moment_of_text text =
    if nat_le (named_moment text) last_moment && same_text (moment_text (named_moment text)) text then Some (named_moment text) else None

-- the registration of an aircraft at a key
abbrev pub tail_at_key : List ℕ → Data → Option (List ℕ)
tail_at_key key d = option_and_then (identifier_of is_tail_character 8) (text_at_key key d)

-- the kind, serial number, part or position at a key
abbrev pub name_at_key : List ℕ → Data → Option (List ℕ)
name_at_key key d = option_and_then (identifier_of is_graphic 16) (text_at_key key d)

-- the document at a key
abbrev pub document_at_key : List ℕ → Data → Option (List ℕ)
document_at_key key d = option_and_then (identifier_of is_graphic 40) (text_at_key key d)

-- the day at a key
abbrev pub day_at_key : List ℕ → Data → Option ℕ
day_at_key key d = option_and_then day_of_text (text_at_key key d)

-- the moment at a key
abbrev pub moment_at_key : List ℕ → Data → Option ℕ
moment_at_key key d = option_and_then moment_of_text (text_at_key key d)
