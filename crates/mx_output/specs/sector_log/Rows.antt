-- The rows of a sector log: the commands that they state, and what each is told.
use Rattle.std.specs.Prelude.{List, [], ◌∷◌, Result, Ok, Err}
use Rattle.mx_book.specs.commands.Act.{Entry}
use Rattle.mx_book.specs.declared.verdict.Reply.{Reply}
use Rattle.mx_intake.specs.declared.fault.IntakeFault.{IntakeFault}
use Rattle.mx_output.specs.declared.sector_log.report.RowReply.{RowReply}
use Rattle.mx_output.specs.declared.sector_log.report.RowReply.TheVariants.{Entered, Bad}

-- the commands of the rows that state one, in order
abbrev pub good_rows : List (Result Entry IntakeFault) → List Entry
good_rows [] = []
good_rows (Ok command ∷ rows) = command ∷ good_rows rows
good_rows (Err fault ∷ rows) = good_rows rows

-- what each row is told, by the replies to the good ones: a bad row its fault, a good one its reply, up to the first good row that has none
abbrev pub told : List (Result Entry IntakeFault) → List Reply → List RowReply
told [] said = []
told (Err fault ∷ rows) said = Bad fault ∷ told rows said
told (Ok command ∷ rows) [] = []
told (Ok command ∷ rows) (reply ∷ said) = Entered reply ∷ told rows said
