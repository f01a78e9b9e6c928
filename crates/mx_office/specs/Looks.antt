-- What is asked of the tables in a transaction of its own, which is dropped.
use Rattle.std.specs.Prelude.{◌≡◌, List, Option, Result, Err, ok_or, IsTrue, IfOk, IfErr, MatchResult}
use Rattle.sqlite.specs.Schema.{Schema}
use Rattle.sqlite.specs.State.{State, HasCleanDisk}
use Rattle.sqlite.specs.Tree.{Trees}
use Rattle.mx_book.specs.commands.Act.{Entry}
use Rattle.mx_book.specs.declared.verdict.Refusal.{Refusal}
use Rattle.mx_layout.specs.TableName.{TableName}
use Rattle.mx_layout.specs.declared.fault.TableFault.{TableFault}
use Rattle.mx_layout.specs.declared.fault.TableFault.TheVariants.{Damaged}
use Rattle.mx_layout.specs.Crash.{ChangesNothing}
use Rattle.mx_tables.specs.Calls.{OnRead}
use Rattle.mx_lookups.specs.numbers.Damage.{IsDamaged}
use Rattle.mx_lookups.specs.numbers.Reads.{HasTablesOfRows, IsStop}
use Rattle.mx_row_questions.specs.lists.Answering.{AnswerListsAs}
use Rattle.mx_apply.specs.Applies.{IsNoDamage}
use Rattle.mx_apply.specs.writing.Written.{IsSettled}
use Rattle.mx_office.specs.Stands.{RestsIn}

-- something was looked up, of which this is so by a book and this by any rows, and a table is told damaged for this reason
pub record LooksUp {V : Type 0} (Is : List Entry → V → Type 0) (IsOfRows : Trees → V → Type 0) (Why : TableName → Trees → Type 0) (old new : State) (result : Result V TableFault) : Type 0 where
  -- no table changes
  pub untouched : ChangesNothing old new
  pub cause : IfErr result IsStop
  -- what was answered was answered by a connection that is open
  pub was_open : HasCleanDisk new → OnRead result (IsTrue old.is_open)
  -- of the book that the tables stand for, in whatever schema, none of which is damaged
  pub of_book : (schema : Schema) → IsSettled schema → (book : List Entry) → RestsIn schema old book → HasCleanDisk new → MatchResult result (Is book) IsNoDamage
  -- of whichever rows the tables have
  pub of_rows : HasCleanDisk new → HasTablesOfRows old.now.schema → IfOk result (IsOfRows old.now.trees)
  pub damaged : HasCleanDisk new → HasTablesOfRows old.now.schema → (name : TableName) → result ≡ Err (Damaged name) → Why name old.now.trees

-- a list or a life is this of a book, or refused so where there is none
abbrev pub IsFound : {X : Type 0} → Refusal → (List Entry → Option X) → List Entry → Result X Refusal → Type 0
IsFound refusal what book answer = answer ≡ ok_or (what book) refusal

-- it is that of each book as which the rows answer
abbrev pub IsFoundIn : {X : Type 0} → Refusal → (List Entry → Option X) → Trees → Result X Refusal → Type 0
IsFoundIn refusal what trees answer = (book : List Entry) → AnswerListsAs trees book → IsFound refusal what book answer

-- a list or a life was looked up
abbrev pub Finds : {X : Type 0} → Refusal → (List Entry → Option X) → State → State → Result (Result X Refusal) TableFault → Type 0
Finds refusal what = LooksUp (IsFound refusal what) (IsFoundIn refusal what) IsDamaged
