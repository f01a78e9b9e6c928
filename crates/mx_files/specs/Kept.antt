-- What becomes of the database in a file that a word works on: what its office was asked, or what was made where none was opened.
use Rattle.std.specs.Prelude.{◌≡◌, ◌≢◌, ◌⊎◌, ℕ, List, Some, None, Result, Err, IsTrue, IsErr, IfErr, OnOk}
use Rattle.sqlite.specs.Schema.{Schema}
use Rattle.sqlite.specs.Tree.{Trees}
use Rattle.sqlite.specs.Store.{Ghosts}
use Rattle.sqlite.specs.Held.{Held, state}
use Rattle.sqlite.specs.State.{State, HasCleanDisk}
use Rattle.sqlite_catalog.specs.Listing.{IsSound}
use Rattle.mx_layout.specs.declared.fault.TableFault.{TableFault}
use Rattle.mx_layout.specs.declared.fault.TableFault.TheVariants.{Store}
use Rattle.mx_layout.specs.Crash.{ChangesNothing, Leaves, RestsAs}
use Rattle.mx_layout.specs.Listed.{IsRefusal}
use Rattle.mx_layout.specs.Making.{IsEmptyIn}
use Rattle.mx_layout.specs.Point.{IsStop}
use Rattle.mx_layout.specs.Steps.{schema_of}
use Rattle.mx_layout.specs.Tables.{no_schema}
use Rattle.mx_book.specs.commands.Act.{Entry}
use Rattle.mx_book_tables.specs.stands.Schemas.{schema_at}
use Rattle.mx_book_tables.specs.stands.Stands.{StandsAt}
use Rattle.mx_moves.specs.install.Entries.{first_point}
use Rattle.mx_faults.specs.declared.fault.OpenFault.{OpenFault}
use Rattle.mx_faults.specs.declared.fault.OpenFault.TheVariants.{OlderLayout}
use Rattle.mx_office.specs.declared.office.Office.{Office}
use Rattle.mx_office.specs.Layout.{office_point}
use Rattle.mx_office.specs.Office.{office_conn, office_state, IsReady}
use Rattle.mx_office.specs.Opening.{ChangesOnWay, HasReason, MovesOn, SaysPoint, WasOurs}
use Rattle.mx_output.specs.declared.endings.ending.Ending.{Ending}
use Rattle.mx_output.specs.declared.endings.ending.Stop.{Stop}
use Rattle.mx_output.specs.declared.endings.ending.Stop.TheVariants.{MakeMemory, Create, Open}

-- ── tables that are made ──

-- tables of a schema were to be made in a database, with this in them
pub record MakesTables {T : Type 0} (of : Schema) (Holds : Trees → Type 0) (was now : State) (result : Result T Stop) : Type 0 where
  -- in an empty one they are there, and whatever stopped it a crash leaves no table or all of them
  pub made : RestsAs was no_schema (IsSound no_schema) → OnOk result (RestsAs now of Holds)
  pub crash : RestsAs was no_schema (IsSound no_schema) → Leaves now (λ trees. IsSound no_schema trees ⊎ Holds trees)
  -- nothing changes where none are made, unless the store failed
  pub unchanged : IfErr result (λ stop. stop ≢ Create Store → ChangesNothing was now)
  -- in one that is not empty none are made and nothing changes
  pub taken : HasCleanDisk now → (IsTrue was.is_open → was.now.schema ≢ no_schema) → IsErr result
  pub kept : (IsTrue was.is_open → was.now.schema ≢ no_schema) → ChangesNothing was now
  -- why none were made
  pub not_here : RestsAs was no_schema (IsSound no_schema) → HasCleanDisk now → IfErr result (λ stop. (fault : TableFault) × (stop ≡ Create fault) × IsStop fault)
  pub stops : IfErr result (λ stop. (fault : TableFault) × (stop ≡ Create fault) × (IsStop fault ⊎ IsRefusal was.now.schema fault))

-- the tables of an empty book were to be made; or memory ran out before, and the database is as it was
abbrev pub MakesBook : {S T : Type 0} → Ghosts S → Held S → Held S → Result T Stop → Type 0
MakesBook g was now result =
    MakesTables (schema_of office_point.layout) (IsEmptyIn office_point.layout) (state g was) (state g now) result
    ⊎ ((result ≡ Err MakeMemory) × (now ≡ was))

-- the tables of the oldest layout were to be made with the rows of a book
abbrev pub InstallsBook : {S T : Type 0} → Ghosts S → List Entry → Held S → Held S → Result T Stop → Type 0
InstallsBook g book was now = MakesTables (schema_at first_point) (λ trees. StandsAt first_point trees book) (state g was) (state g now)

-- ── an office that is opened ──

-- an office was opened in a database
pub record OpensIn {S : Type 0} {g : Ghosts S} (was : Held S) (office : Office S g) : Type 0 where
  pub ready : IsReady office
  -- what became of the tables as it was opened
  pub moves : MovesOn (state g was) (office_state office) None
  pub changes : ChangesOnWay g was (office_state office)
  -- what the database was
  pub told : HasCleanDisk (office_state office) → SaysPoint g was None
  pub ours : HasCleanDisk (office_state office) → WasOurs (state g was)

-- none was opened in a database, for this reason
pub record OpensNone {S : Type 0} (g : Ghosts S) (was now : Held S) (why : OpenFault) : Type 0 where
  -- what became of the tables
  pub moves : MovesOn (state g was) (state g now) (Some why)
  pub changes : ChangesOnWay g was (state g now)
  -- what the database was
  pub told : HasCleanDisk (state g now) → SaysPoint g was (Some why)
  pub reason : HasCleanDisk (state g now) → HasReason (state g was) why
  pub older : (layout : ℕ) → why ≢ OlderLayout layout

-- the office in a database was opened, and this was so of it before and behind what it was asked, and of nothing else of the database; or none was opened, which is what comes of it, and nothing was appended
abbrev pub OpensAnd : {S : Type 0} (g : Ghosts S) → (Office S g → Office S g → Type 0) → Held S → Held S → List ℕ → List ℕ → Result Ending Stop → Type 0
OpensAnd {S} g Keeps was now old new result =
    ((before : Office S g) × (after : Office S g) × OpensIn was before × Keeps before after × (now ≡ office_conn after))
    ⊎ ((why : OpenFault) × OpensNone g was now why × (result ≡ Err (Open why)) × (new ≡ old))
