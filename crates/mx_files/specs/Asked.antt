-- What becomes of an office that a word asks, and what is printed of that.
use Rattle.std.specs.Prelude.{◌≡◌, ℕ, List, ◌++◌, Option, Some, None, Result, Err, IfOk, IfErr}
use Rattle.sqlite.specs.Store.{Ghosts}
use Rattle.sqlite.specs.State.{HasCleanDisk}
use Rattle.mx_book_tables.specs.stands.Schemas.{HasTablesAt}
use Rattle.mx_faults.specs.declared.fault.Fault.{Fault}
use Rattle.mx_intake.specs.declared.fault.IntakeFault.{IntakeFault}
use Rattle.mx_office.specs.declared.office.Office.{Office}
use Rattle.mx_office.specs.Layout.{office_point}
use Rattle.mx_office.specs.Office.{office_state, IsReady}
use Rattle.mx_jobs.specs.Verified.{AsksVerified, TellsVerified}
use Rattle.mx_jobs.specs.logs.Import.{IsFaultOf}
use Rattle.mx_jobs.specs.logs.Told.{AreTold}
use Rattle.mx_output.specs.endings.Status.{stop_status}
use Rattle.mx_output.specs.printed.Imported.{import_ending}
use Rattle.mx_output.specs.printed.Verified.{PrintsVerified}
use Rattle.mx_output.specs.sector_log.Text.{row_lines}
use Rattle.mx_output.specs.declared.endings.ending.Ending.{Ending}
use Rattle.mx_output.specs.declared.endings.ending.Stop.{Stop}
use Rattle.mx_output.specs.declared.endings.ending.Stop.TheVariants as stop
use Rattle.mx_output.specs.declared.sector_log.report.RowReply.{RowReply}

-- an office was asked whether its tables are those of a book, no table changed, and what was printed is right for them
pub record Verifies {S : Type 0} {g : Ghosts S} (before after : Office S g) (old new : List ℕ) (result : Result Ending Stop) : Type 0 where
  pub asked : AsksVerified before after (PrintsVerified old new result)
  pub told : IsReady before → HasCleanDisk (office_state after) → HasTablesAt office_point (office_state before).now.schema → TellsVerified (office_state before).now old new result

-- the rows of some log were told so, the good ones handed in to an office up to this fault, if any, and their lines were appended
abbrev pub PrintsTold : {S : Type 0} {g : Ghosts S} → Option Fault → List RowReply → Office S g → Office S g → List ℕ → List ℕ → Type 0
PrintsTold stopped rows before after old new = AreTold None stopped rows before after × (new ≡ old ++ row_lines rows)

-- a log of which no byte is known was imported into an office
pub record Imports {S : Type 0} {g : Ghosts S} (before after : Office S g) (old new : List ℕ) (result : Result Ending Stop) : Type 0 where
  -- its rows were told, and the ending is theirs; or a fault of the office stopped it behind some of them
  pub ended : IfOk result (λ ending. (rows : List RowReply) × PrintsTold None rows before after old new × (ending ≡ import_ending rows))
  pub stopped : (fault : Fault) → result ≡ Err (stop.Office fault) → (rows : List RowReply) × PrintsTold (Some fault) rows before after old new
  -- it gave no rows, and the office is as it was
  pub unread : IfErr result (λ why. stop_status why ≡ 3 → (new ≡ old) × (after ≡ before))
  pub fault : (fault : IntakeFault) → result ≡ Err (stop.Intake fault) → IsFaultOf None fault
  -- memory ran out for the lines, and the good rows were handed in all the same
  pub unprinted : result ≡ Err stop.Print → new ≡ old
  pub ran : result ≡ Err stop.Print → (why : Option Fault) × (rows : List RowReply) × AreTold None why rows before after
