-- The commands of a text.
use Rattle.std.specs.Prelude.{ℕ, ◌+◌, List, [], nat_lt, Result, Ok, Err, if◌then◌else◌}
use Rattle.serde_json.specs.Data.{Data, null, boolean, number, string, array, object, Items, no_items, item}
use Rattle.serde_json.specs.Events.{items_len}
use Rattle.serde_json.specs.Read.{read}
use Rattle.mx_book.specs.commands.Act.{Entry}
use Rattle.mx_intake.specs.declared.fault.IntakeFault.{IntakeFault}
use Rattle.mx_intake.specs.declared.fault.TheConstants.{BAD_VALUE, TOO_LONG}
use Rattle.mx_intake.specs.declared.json.TheConstants.{MOST_COMMANDS}
use Rattle.mx_intake.specs.Fault.{fault}
use Rattle.mx_intake.specs.Forms.{entry_by_json}
use Rattle.mx_intake.specs.Sequence.{given_before}
use Rattle.mx_intake.specs.Text.{text_of_bytes, reading_of}

-- the commands of the values, the first of which is entry `place`, or the fault of the first faulty one
abbrev pub entries_from : ℕ → Items → Result (List Entry) IntakeFault
entries_from place no_items = Ok []
entries_from place (item d ds) = given_before place (entry_by_json d) (entries_from (place + 1) ds)

-- the commands of a value: of a list of at most 10,000
abbrev pub entries_of_value : Data → Result (List Entry) IntakeFault
entries_of_value (array ds) = if nat_lt MOST_COMMANDS (items_len ds) then Err (fault TOO_LONG 0) else entries_from 1 ds
entries_of_value null = Err (fault BAD_VALUE 0)
entries_of_value (boolean b) = Err (fault BAD_VALUE 0)
entries_of_value (number n) = Err (fault BAD_VALUE 0)
entries_of_value (string s) = Err (fault BAD_VALUE 0)
entries_of_value (object ms) = Err (fault BAD_VALUE 0)

-- the value of a text
unfoldable pub value_of_text : List ℕ → Result Data IntakeFault
value_of_text bytes = reading_of read (text_of_bytes bytes)

-- the commands of a value, if there is one
abbrev pub entries_if_value : Result Data IntakeFault → Result (List Entry) IntakeFault
entries_if_value (Ok d) = entries_of_value d
entries_if_value (Err f) = Err f

-- the commands of a text, or its fault
abbrev pub entries_of_text : List ℕ → Result (List Entry) IntakeFault
entries_of_text bytes = entries_if_value (value_of_text bytes)
