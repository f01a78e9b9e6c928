-- Worked texts: the commands that they state, or their faults, computed from the definitions.
use Rattle.std.proofs.Common.{refl, ◌≡◌, ℕ, List, [], ◌∷◌, Some, None, Ok, Err, length, replicate, arith, ◌++◌}
use Rattle.std.specs.Prelude.{codes, map, Result, ⊤}
use Rattle.std.specs.Str.{is_utf8, chars}
use Rattle.jiff_core.specs.Calendar.{days_from_civil, day_count, days_of_years, days_of_months}
use Rattle.serde_json.proofs.OnLiterals.{serde_json_on_literals}
use Rattle.mx_base.specs.Calendar.{date_of}
use Rattle.mx_base.specs.Texts.{day_text, moment_text}
use Rattle.mx_book.specs.commands.Act.{Entry, Removed}
use Rattle.mx_intake.specs.Fault.{fault}
use Rattle.mx_intake.specs.Entries.{value_of_text, entries_of_value, entries_from, entries_of_text}
use Rattle.mx_intake.proofs.EntriesLemmas.{value_of_text-long}
use Rattle.serde_json.specs.Data.{Items, array}
use Rattle.serde_json.specs.Events.{items_len}
use Rattle.serde_json.specs.Read.{read}
use Rattle.mx_intake.specs.Text.{text_of_bytes}
use Rattle.mx_intake.specs.Vocabulary.{named_day, day_of_text, named_moment, moment_of_text}
use Rattle.mx_intake.specs.declared.fault.IntakeFault.{IntakeFault}
use Rattle.mx_intake.specs.declared.fault.TheConstants.{MEMORY, NOT_TEXT, MISSING, BAD_VALUE, UNKNOWN_KEY, BAD_SHAPE, BAD_HEADER, TOO_LONG, BAD_ROW, READ_FAILED}
use Rattle.mx_intake.specs.declared.json.TheConstants.{MOST_COMMANDS}
use Rattle.mx_intake.specs.declared.sector_rows.TheConstants.{MOST_ROWS}
use Rattle.mx_intake.specs.declared.text.TheConstants.{MOST_BYTES}

-- what is unfolded to compute the commands of a text
unfoldable pub intake_on_literals : ⊤
unfolding value_of_text text_of_bytes is_utf8 chars serde_json_on_literals day_of_text moment_of_text named_moment named_day days_from_civil day_count days_of_years days_of_months moment_text day_text date_of
intake_on_literals = tt

-- each of these gives what stands beside it
abbrev pub Gives : {A B : Type 0} → (A → B) → List (A × B) → Type 0
Gives f rows = map (λ row. f row.0) rows ≡ map (λ row. row.1) rows

-- each of these texts, beside a fault of its first entry
abbrev pub faulty : ℕ → List (List ℕ) → List (List ℕ × Result (List Entry) IntakeFault)
faulty number texts = map (λ text. (text, Err (fault number 1))) texts

-- what the text gives that has this between what stands before and behind it
abbrev pub between : List ℕ → List ℕ → List ℕ → Result (List Entry) IntakeFault
between before behind text = entries_of_text (before ++ text ++ behind)

-- ── days and moments ──

moments : Gives moment_of_text (
    (codes "1970-01-02T23:59", Some 2879)
    ∷ (codes "1970-01-02T24:00", None)
    ∷ (codes "1970-01-02T23:59:00", None) ∷ [])
unfolding intake_on_literals
moments = refl

days : Gives day_of_text ((codes "1972-02-30", None) ∷ (codes "2024-03-01", Some 19783) ∷ [])
unfolding intake_on_literals
days = refl

-- ── whole texts, removals, and which fault is told ──

whole_texts : Gives entries_of_text (
    (([], Err (fault 61 0))
    ∷ (91 ∷ 255 ∷ 93 ∷ [], Err (fault 61 0))
    ∷ (codes "[]", Ok [])
    ∷ (codes "{}", Err (fault 63 0)) ∷ [])
    ++ faulty 63 (
    codes "[1]"
    ∷ codes "[{\"do\":\"fly\"}]" ∷ [])
    ++ faulty 62 (codes "[{}]" ∷ [])
    -- removals
    ++ faulty 62 (codes "[{\"do\":\"remove\",\"doc\":\"R9\",\"serial\":\"E9\"}]" ∷ [])
    ++ ((codes "[{\"do\":\"remove\",\"doc\":\"R9\",\"serial\":\"E9\",\"moment\":\"1970-01-02T23:59\"}]", Ok (record { doc = codes "R9"; act = Removed (record { serial = codes "E9"; moment = 2879 }) } ∷ [])) ∷ [])
    ++ faulty 63 (codes "[{\"do\":\"remove\",\"doc\":\"R9\",\"serial\":\"E9\",\"moment\":\"2024-02-30T00:00\"}]" ∷ [])
    -- a document of the technical log, which no removal has
    ++ faulty 65 (codes "[{\"do\":\"remove\",\"doc\":\"TL/D/1/1\",\"serial\":\"E9\",\"moment\":\"1970-01-02T23:59\"}]" ∷ [])
    -- the first faulty entry, and its least fault
    ++ faulty 63 (codes "[{\"do\":\"fly\"},{}]" ∷ [])
    ++ ((codes "[{\"do\":\"remove\",\"doc\":\"R9\",\"serial\":\"E9\",\"moment\":\"1970-01-02T23:59\"},{}]", Err (fault 62 2)) ∷ [])
    -- a key that is missing, before a value that can't be read and a key that is unknown
    ++ faulty 62 (codes "[{\"do\":\"remove\",\"doc\":\"\",\"serial\":\"E9\",\"note\":1}]" ∷ [])
    -- a value that can't be read, before a key that is unknown
    ++ faulty 63 (codes "[{\"do\":\"remove\",\"doc\":\"\",\"serial\":\"E9\",\"moment\":\"1970-01-02T23:59\",\"note\":1}]" ∷ [])
    -- a key that is unknown, before the shape
    ++ faulty 64 (codes "[{\"do\":\"remove\",\"doc\":\"TL/D/1/1\",\"serial\":\"E9\",\"moment\":\"1970-01-02T23:59\",\"note\":1}]" ∷ []))
unfolding intake_on_literals
whole_texts = refl

-- ── limits ──

one_byte_too_many : (bytes : List ℕ) → length bytes ≡ 8388609 → entries_of_text bytes ≡ Err (fault 67 0)
one_byte_too_many bytes h = rw (value_of_text-long bytes (omega arith))

one_entry_too_many : (ds : Items) → items_len ds ≡ 10001 → entries_of_value (array ds) ≡ Err (fault 67 0)
one_entry_too_many ds h = rw h

as_many_entries_as_are_taken : (ds : Items) → items_len ds ≡ 10000 → entries_of_value (array ds) ≡ entries_from 1 ds
as_many_entries_as_are_taken ds h = rw h

deep_lists : read (replicate 200 91) ≡ None
unfolding intake_on_literals
deep_lists = refl

-- ── the bounds and the faults, as numbers ──

-- the bytes of a text, the commands of a list, the rows of a log
most_of_a_text : MOST_BYTES ∷ MOST_COMMANDS ∷ MOST_ROWS ∷ [] ≡ 8388608 ∷ 10000 ∷ 100000 ∷ []
most_of_a_text = refl

faults_numbered
    : MEMORY ∷ NOT_TEXT ∷ MISSING ∷ BAD_VALUE ∷ UNKNOWN_KEY ∷ BAD_SHAPE ∷ BAD_HEADER ∷ TOO_LONG ∷ BAD_ROW ∷ READ_FAILED ∷ []
    ≡ 60 ∷ 61 ∷ 62 ∷ 63 ∷ 64 ∷ 65 ∷ 66 ∷ 67 ∷ 68 ∷ 69 ∷ []
faults_numbered = refl
