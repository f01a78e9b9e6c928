-- What the rows of a sector log are told.
use Rattle.std.specs.Prelude.{◌≡◌, ℕ, List, Option, Result}
use Rattle.sqlite.specs.Store.{Ghosts}
use Rattle.mx_book.specs.commands.Act.{Entry}
use Rattle.mx_book.specs.declared.verdict.Reply.{Reply}
use Rattle.mx_intake.specs.declared.fault.IntakeFault.{IntakeFault}
use Rattle.mx_office.specs.Calls.{IsRun}
use Rattle.mx_faults.specs.declared.fault.Fault.{Fault}
use Rattle.mx_office.specs.declared.office.Office.{Office}
use Rattle.mx_jobs.specs.logs.Import.{AreRowsOf}
use Rattle.mx_output.specs.sector_log.Rows.{good_rows, told}
use Rattle.mx_output.specs.declared.sector_log.report.RowReply.{RowReply}

-- the rows are told so: those of what a reader had left, the good ones handed in one after the other up to this fault, if any
abbrev pub AreTold : {S : Type 0} {g : Ghosts S} → Option (List ℕ) → Option Fault → List RowReply → Office S g → Office S g → Type 0
AreTold left stopped rows before after =
    (given : List (Result Entry IntakeFault)) × (said : List Reply) × AreRowsOf left given × (rows ≡ told given said)
    × IsRun (good_rows given) said stopped before after
