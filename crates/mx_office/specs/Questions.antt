-- What a question is answered.
use Rattle.std.specs.Prelude.{◌≡◌, ◌≢◌, List, Result, Err}
use Rattle.sqlite.specs.Store.{Ghosts}
use Rattle.sqlite.specs.Schema.{Schema}
use Rattle.sqlite.specs.State.{HasCleanDisk}
use Rattle.mx_book.specs.commands.Act.{Entry}
use Rattle.mx_layout.specs.TableName.{TableName}
use Rattle.mx_lookups.specs.numbers.Damage.{IsDamaged}
use Rattle.mx_lookups.specs.numbers.Told.{Damage}
use Rattle.mx_row_questions.specs.lists.Answering.{AnswerListsAs}
use Rattle.mx_apply.specs.writing.Written.{IsSettled}
use Rattle.mx_faults.specs.declared.fault.Ask.{Ask}
use Rattle.mx_faults.specs.declared.fault.Ask.TheVariants.{Failed}
use Rattle.mx_faults.specs.declared.fault.Fault.{Fault}
use Rattle.mx_faults.specs.declared.fault.Fault.TheVariants.{Damaged}
use Rattle.mx_office.specs.declared.office.Office.{Office}
use Rattle.mx_office.specs.Faults.{IsAnswer}
use Rattle.mx_lookups.specs.numbers.Reads.{HasTablesOfRows}
use Rattle.mx_office.specs.Office.{office_state, IsReady}
use Rattle.mx_office.specs.Stands.{RestsIn}

-- a question was answered, to which this is said of a book
pub record IsAnsweredBy {S : Type 0} {g : Ghosts S} {X : Type 0} (said : List Entry → Result X Ask) (old new : Office S g) (result : Result X Ask) : Type 0 where
  -- of the book that the tables stand for, in whatever schema, unless memory or the store failed
  pub exact : (schema : Schema) → IsSettled schema → (book : List Entry) → IsReady old → RestsIn schema (office_state old) book → HasCleanDisk (office_state new) → IsAnswer (said book) result
  -- of each book as which the rows answer that the tables have, if it was answered at all
  pub sound : HasCleanDisk (office_state new) → HasTablesOfRows (office_state old).now.schema → ((fault : Fault) → result ≢ Err (Failed fault)) → (book : List Entry) → AnswerListsAs (office_state old).now.trees book → result ≡ said book
  -- a table is answered damaged only where it is
  pub damaged : HasCleanDisk (office_state new) → HasTablesOfRows (office_state old).now.schema → (table : TableName) → result ≡ Err (Failed (Damaged table)) → IsDamaged table (office_state old).now.trees

-- a table is answered damaged only for this reason
pub record AnswersDamage {S : Type 0} {g : Ghosts S} {X : Type 0} (Why : Damage) (old new : Office S g) (result : Result X Ask) : Type 0 where
  pub told : HasCleanDisk (office_state new) → HasTablesOfRows (office_state old).now.schema → (table : TableName) → result ≡ Err (Failed (Damaged table)) → Why table (office_state old).now.trees
