-- What is answered of a file, whatever rows it has: whether its tables stand for a book, or why that was not found out.
use Rattle.std.specs.Prelude.{◌≡◌, Bool, true, ◌&&◌, List, Result, Ok, Err, IfOk, IfErr, IsTrue, MatchResult}
use Rattle.std.specs.Bool.{Decides}
use Rattle.sqlite.specs.Tree.{Trees}
use Rattle.sqlite.specs.Effect.{Database}
use Rattle.sqlite.specs.State.{State, HasCleanDisk, IsUnchanged}
use Rattle.mx_book.specs.commands.Act.{Entry}
use Rattle.mx_layout.specs.TableName.{TableName}
use Rattle.mx_layout.specs.declared.fault.TableFault.{TableFault}
use Rattle.mx_layout.specs.declared.fault.TableFault.TheVariants as fault
use Rattle.mx_layout.specs.Crash.{StaysInside, IsWithin}
use Rattle.mx_layout.specs.Point.{IsStop}
use Rattle.mx_book_tables.specs.stands.Schemas.{schema_at}
use Rattle.mx_book_tables.specs.stands.Stands.{HasRowsAt}
use Rattle.mx_tables.specs.Calls.{OnRead}
use Rattle.mx_verify.specs.declared.verified.verified.Unverified.{Unverified}
use Rattle.mx_verify.specs.declared.verified.verified.Unverified.TheVariants as why
use Rattle.mx_book_tables.specs.reading.Layout.{HasTables, verified_point}
use Rattle.mx_book_tables.specs.reading.Damage.{IsCause, table_of}
use Rattle.mx_verify.specs.Damage.{IsDamaged, IsUndamaged}

-- ── the answer ──

-- why it was not found out whether rows are those of a book, as the fault of a table
abbrev pub fault_by : Unverified → TableFault
fault_by why.Memory = fault.Memory
fault_by (why.Damaged kind) = fault.Damaged (table_of kind)

-- whether the row of office is that of the point, and the rows of the other tables are those of a book
abbrev pub told_rows : Bool → Result Bool Unverified → Result Bool TableFault
told_rows settled (Ok same) = Ok (settled && same)
told_rows settled (Err why) = Err (fault_by why)

-- whether the tables are those of the layout alone, and have the rows of a book
abbrev pub told_file : Bool → Result Bool TableFault → Result Bool TableFault
told_file alone (Ok same) = Ok (alone && same)
told_file alone (Err fault) = Err fault

-- the tables have the rows of a book, and these alone: the part on rows of what tables stand for
abbrev pub HasBook : Trees → Type 0
HasBook trees = (book : List Entry) × HasRowsAt verified_point trees book

-- the tables are those of the layout and no others, and have the rows of a book
abbrev pub IsVerified : Database → Type 0
IsVerified db = (db.schema.tables ≡ (schema_at verified_point).tables) × HasBook db.trees

-- What is answered of trees, whatever rows they have: whether this is so of them; it is never told that a table is damaged where it is so; a table is told damaged only where it is, and where there is an answer none is.
pub record Tells (Is : Type 0) (trees : Trees) (result : Result Bool TableFault) : Type 0 where
  pub exact : IfOk result (λ same. Decides same Is)
  pub whole : Is → MatchResult result (λ same. same ≡ true) IsStop
  pub damaged : (name : TableName) → result ≡ Err (fault.Damaged name) → IsDamaged trees name
  pub undamaged : IfOk result (λ same. IsUndamaged trees)

-- The tables of a file were verified inside a transaction, from one state to the next: whether they have the rows of a book, and nothing changed; or want of memory or the store stopped the call.
pub record Verifies (old new : State) (result : Result Bool TableFault) : Type 0 where
  pub tells : HasCleanDisk new → HasTables old.now.schema → Tells (HasBook old.now.trees) old.now.trees result
  pub cause : HasCleanDisk new → IfErr result IsCause
  pub unchanged : HasCleanDisk new → HasTables old.now.schema → OnRead result (IsUnchanged old new)
  pub inside : HasCleanDisk new → IsTrue old.in_transaction → OnRead result (StaysInside old new)
  pub within : IsWithin old new
