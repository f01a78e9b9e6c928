-- The sectors of a log: a text of comma-separated fields, with a header and a sector in each row below it.
use Rattle.std.specs.Prelude.{ℕ, ◌+◌, List, [], ◌∷◌, codes, length, Bool, false, ◌&&◌, nat_eq, nat_lt, Option, Some, None, option_and_then, Result, Ok, Err, if◌then◌else◌}
use Rattle.std.specs.Option.{option_map_or}
use Rattle.std.specs.Str.{is_utf8, bytes_eq}
use Rattle.csv.specs.Reading.{default_config, records, strip_bom}
use Rattle.csv.specs.Records.{field_at}
use Rattle.mx_base.specs.Identifier.{is_tail_character}
use Rattle.mx_book.specs.commands.Act.{Entry}
use Rattle.mx_book.specs.commands.Shape.{has_shape}
use Rattle.mx_book.specs.declared.commands.sector.Sector.{Sector}
use Rattle.mx_intake.specs.declared.fault.IntakeFault.{IntakeFault}
use Rattle.mx_intake.specs.declared.fault.TheConstants.{BAD_VALUE, BAD_HEADER, TOO_LONG, BAD_ROW}
use Rattle.mx_intake.specs.declared.sector_rows.TheConstants.{MOST_ROWS}
use Rattle.mx_intake.specs.declared.text.TheConstants.{MOST_BYTES}
use Rattle.mx_intake.specs.Fault.{fault}
use Rattle.mx_intake.specs.Form.{if_read, if_shaped}
use Rattle.mx_intake.specs.Forms.{logged}
use Rattle.mx_intake.specs.Number.{number_of_digits}
use Rattle.mx_intake.specs.Vocabulary.{identifier_of, moment_of_text}

-- ── the fields of a record, counted from 0 ──

-- the text that a field is, where it is UTF-8
unfoldable pub text_of_field : List ℕ → Option (List ℕ)
text_of_field field = if is_utf8 field then Some field else None

-- the text in a field
abbrev pub text_in_field : ℕ → List (List ℕ) → Option (List ℕ)
text_in_field place fields = option_and_then text_of_field (field_at fields place)

-- the registration in a field
abbrev pub tail_in_field : ℕ → List (List ℕ) → Option (List ℕ)
tail_in_field place fields = option_and_then (identifier_of is_tail_character 8) (text_in_field place fields)

-- the moment in a field
abbrev pub moment_in_field : ℕ → List (List ℕ) → Option ℕ
moment_in_field place fields = option_and_then moment_of_text (text_in_field place fields)

-- the number in a field
abbrev pub number_in_field : ℕ → List (List ℕ) → Option ℕ
number_in_field place fields = option_and_then number_of_digits (field_at fields place)

-- a field has these bytes
abbrev pub is_field : ℕ → List ℕ → List (List ℕ) → Bool
is_field place bytes fields = option_map_or (bytes_eq bytes) (field_at fields place) false

-- ── one row ──

-- the sector that the fields of a row state, where each can be read
abbrev pub sector_of_fields : List (List ℕ) → Option Sector
sector_of_fields fields =
    if_read (tail_in_field 0 fields) (λ tail.
    if_read (number_in_field 1 fields) (λ page.
    if_read (number_in_field 2 fields) (λ line.
    if_read (moment_in_field 3 fields) (λ off.
    if_read (moment_in_field 4 fields) (λ on.
    if_read (number_in_field 5 fields) (λ cycles.
    Some (record { tail = tail; page = page; line = line; off = off; on = on; cycles = cycles })))))))

-- the command of a sector, where it can be read and has a sector's shape
abbrev pub entry_of_sector : Option Sector → Result Entry ℕ
entry_of_sector None = Err BAD_VALUE
entry_of_sector (Some sector) = if_shaped has_shape (logged sector)

-- the command that the fields of a row state: there are six
abbrev pub entry_of_fields : List (List ℕ) → Result Entry ℕ
entry_of_fields fields = if nat_eq (length fields) 6 then entry_of_sector (sector_of_fields fields) else Err BAD_ROW

-- a command, or its fault in a row
abbrev pub in_row : ℕ → Result Entry ℕ → Result Entry IntakeFault
in_row n (Ok e) = Ok e
in_row n (Err which) = Err (fault which n)

-- what row n gives
abbrev pub row_of : ℕ → List (List ℕ) → Result Entry IntakeFault
row_of n fields = in_row n (entry_of_fields fields)

-- ── all rows ──

-- what the rows give, the first of which is row n
abbrev pub rows_from : ℕ → List (List (List ℕ)) → List (Result Entry IntakeFault)
rows_from n [] = []
rows_from n (fields ∷ rows) = row_of n fields ∷ rows_from (n + 1) rows

-- a record is the header: these six fields, and no others
abbrev pub is_header : List (List ℕ) → Bool
is_header fields =
    nat_eq (length fields) 6
    && (is_field 0 (codes "tail") fields
    && (is_field 1 (codes "page") fields
    && (is_field 2 (codes "line") fields
    && (is_field 3 (codes "off") fields
    && (is_field 4 (codes "on") fields
    && is_field 5 (codes "cycles") fields)))))

-- what the rows give, of which there are at most 100,000
abbrev pub rows_if_few : List (List (List ℕ)) → Result (List (Result Entry IntakeFault)) IntakeFault
rows_if_few rows = if nat_lt MOST_ROWS (length rows) then Err (fault TOO_LONG 0) else Ok (rows_from 1 rows)

-- what the records give: the first is the header
abbrev pub rows_under_header : List (List (List ℕ)) → Result (List (Result Entry IntakeFault)) IntakeFault
rows_under_header [] = Err (fault BAD_HEADER 0)
rows_under_header (first ∷ rows) = if is_header first then rows_if_few rows else Err (fault BAD_HEADER 0)

-- what the rows of a text give, or the fault of the whole text: it has at most 8,388,608 bytes
abbrev pub sector_rows : List ℕ → Result (List (Result Entry IntakeFault)) IntakeFault
sector_rows bytes =
    if nat_lt MOST_BYTES (length bytes) then Err (fault TOO_LONG 0)
    else rows_under_header (records default_config (strip_bom bytes))
