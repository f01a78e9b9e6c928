-- What is printed of an office that is asked whether its tables are those of a book.
use Rattle.std.specs.Prelude.{ℕ, List, Bool, Result}
use Rattle.sqlite.specs.Effect.{Database}
use Rattle.sqlite.specs.Store.{Ghosts}
use Rattle.mx_office.specs.Calls.{stop_in, IsAsked}
use Rattle.mx_office.specs.Verified.{SaysVerified}
use Rattle.mx_faults.specs.declared.fault.Fault.{Fault}
use Rattle.mx_office.specs.declared.office.Office.{Office}
use Rattle.mx_output.specs.printed.Verified.{PrintsVerified}
use Rattle.mx_output.specs.declared.endings.ending.Ending.{Ending}
use Rattle.mx_output.specs.declared.endings.ending.Stop.{Stop}

-- what was appended is that of an answer which is right for the tables, whatever rows they have
abbrev pub TellsVerified : Database → List ℕ → List ℕ → Result Ending Stop → Type 0
TellsVerified db old new result = (answer : Result Bool Fault) × SaysVerified db answer × PrintsVerified old new result answer

-- an office was asked whether its tables are those of a book, no table changed, and this was printed of the answer
abbrev pub AsksVerified : {S : Type 0} {g : Ghosts S} → Office S g → Office S g → (Result Bool Fault → Type 0) → Type 0
AsksVerified before after Prints = (answer : Result Bool Fault) × IsAsked (stop_in answer) before after × Prints answer
