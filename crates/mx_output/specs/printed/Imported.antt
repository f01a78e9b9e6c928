-- What is printed of a sector log that is imported, and how the word ends.
use Rattle.std.specs.Prelude.{◌≡◌, ℕ, List, if◌then◌else◌}
use Rattle.std.specs.List.{list_any}
use Rattle.mx_output.specs.sector_log.Text.{row_lines}
use Rattle.mx_output.specs.sector_log.Told.{is_bad, is_refused_row}
use Rattle.mx_output.specs.declared.sector_log.report.RowReply.{RowReply}
use Rattle.mx_output.specs.declared.endings.ending.Ending.{Ending}
use Rattle.mx_output.specs.declared.endings.ending.Ending.TheVariants.{Done, Refused, Bad}

-- how an import with these rows ended: the gravest counts
abbrev pub import_ending : List RowReply → Ending
import_ending rows = if list_any is_bad rows then Bad else (if list_any is_refused_row rows then Refused else Done)

-- the text is a line for each of some rows, and the ending is theirs
abbrev pub AreRowLines : List ℕ → Ending → Type 0
AreRowLines text ending = (rows : List RowReply) × (text ≡ row_lines rows) × (ending ≡ import_ending rows)
