-- What a command that is handed in does to a file, over any rows and over the tables of a book.
-- What a crash may leave over any rows is a clause of its own beside `Applies`, and no field of it: a goal has the name
-- of its clause, so that a second commit is refused by what it breaks, and not by the record as a whole.
use Rattle.std.specs.Prelude.{⊤, ◌≡◌, ◌≢◌, ◌⊎◌, ◌≤◌, ℕ, List, [], ◌∷◌, ◌++◌, Result, Ok, Err, IsTrue, IfOk, IfErr, MatchResult}
use Rattle.sqlite.specs.Schema.{Schema}
use Rattle.sqlite.specs.State.{State, HasCleanDisk}
use Rattle.sqlite.specs.Tree.{Trees}
use Rattle.sqlite_trees.specs.View.{doubt}
use Rattle.mx_book.specs.commands.Act.{Entry}
use Rattle.mx_book.specs.Judge.{judge}
use Rattle.mx_book.specs.Run.{reply}
use Rattle.mx_book.specs.declared.verdict.Reply.{Reply}
use Rattle.mx_book.specs.declared.verdict.Reply.TheVariants.{Accepted, Already, Refused}
use Rattle.mx_book.specs.declared.verdict.Verdict.{Verdict}
use Rattle.mx_book.specs.declared.verdict.Verdict.TheVariants as verdicts
use Rattle.mx_row_rules.specs.declared.changes.rows.CommandRows.{CommandRows}
use Rattle.mx_layout.specs.declared.fault.TableFault.{TableFault}
use Rattle.mx_layout.specs.TableName.{TableName}
use Rattle.mx_layout.specs.declared.fault.TableFault.TheVariants.{Memory, Store, Damaged}
use Rattle.mx_layout.specs.Crash.{ChangesNothing, IsWithin, Leaves, StaysInside}
use Rattle.mx_book_tables.specs.stands.Stands.{IsEitherInSchema, RestsInSchema, StandsInSchema}
use Rattle.mx_tables.specs.Calls.{OnRead}
use Rattle.mx_tables.specs.inserts.Sets.{GainsRows}
use Rattle.mx_lookups.specs.numbers.Damage.{IsDamaged}
use Rattle.mx_lookups.specs.numbers.Reads.{HasTablesOfRows, IsStop}
use Rattle.mx_apply.specs.made.Found.{AreRowsFor}
use Rattle.mx_row_judge.specs.Answering.{AnswerAs}
use Rattle.mx_apply.specs.writing.Changes.{AllRise}
use Rattle.mx_apply.specs.writing.Commits.{IsWritten, MayWrite}
use Rattle.mx_apply.specs.writing.Written.{IsSettled, with_rows, written_point}

-- the tables of this schema stand for the book, at the point of the files to which commands are written
abbrev pub StandsIn : Schema → Trees → List Entry → Type 0
StandsIn schema = StandsInSchema schema written_point

-- no transaction is open, and they, and each state of them that a crash may leave, do so
abbrev pub RestsIn : Schema → State → List Entry → Type 0
RestsIn schema = RestsInSchema schema written_point

-- the tables stand for one of two books
abbrev pub IsEitherIn : Schema → List Entry → List Entry → Trees → Type 0
IsEitherIn schema = IsEitherInSchema schema written_point

-- the book behind the reply to a command: with it where it was accepted
abbrev pub behind : List Entry → Entry → Reply → List Entry
behind book command (Accepted seq) = book ++ command ∷ []
behind book command _ = book

-- the reply is by this verdict
abbrev pub RepliesBy : Verdict → Reply → Type 0
RepliesBy verdict (Accepted seq) = verdict ≡ verdicts.New
RepliesBy verdict (Already seq) = verdict ≡ verdicts.Already seq
RepliesBy verdict (Refused refusal) = verdict ≡ verdicts.Refused refusal

-- the reply is by the verdict of each book as which the rows answer
abbrev pub ReplyOf : Entry → Trees → Reply → Type 0
ReplyOf command trees reply = (book : List Entry) → AnswerAs trees book → RepliesBy (judge book command) reply

-- want of memory or the store: no table is damaged
abbrev pub IsNoDamage : TableFault → Type 0
IsNoDamage e = (e ≡ Memory) ⊎ (e ≡ Store)

-- the reply is not that the command was accepted, nor did the store stop it
pub record IsIdle (result : Result Reply TableFault) : Type 0 where
  pub accepted : (seq : ℕ) → result ≢ Ok (Accepted seq)
  pub store : result ≢ Err Store

-- the rows are this command's, by what its tables had at layout 2
abbrev pub AreItsRows : Entry → State → CommandRows → Type 0
AreItsRows command old rows = HasTablesOfRows old.now.schema → AreRowsFor command old.now.trees rows

-- the rows of this command were written where it was accepted, with the number that is replied: each table has its rows from before with those
abbrev pub Wrote : Entry → Reply → State → State → Type 0
Wrote command (Accepted seq) old new = (rows : CommandRows) × AreItsRows command old rows × (rows.entry.seq ≡ seq) × (IsSettled old.now.schema → AllRise old.now → GainsRows (with_rows rows) old.now new.now)
Wrote command _ old new = ⊤

-- the command is new to these tables: accepted is the reply by the verdict of each book as which the rows answer
abbrev pub IsNewTo : Entry → State → CommandRows → Type 0
IsNewTo command old rows = HasTablesOfRows old.now.schema → ReplyOf command old.now.trees (Accepted rows.entry.seq)

-- the tables with the one commit of the rows of this command, which is new to them; a crash may leave it beside those from before
abbrev pub HasOneCommit : Entry → State → Trees → Type 0
HasOneCommit command old trees = (rows : CommandRows) × AreItsRows command old rows × MayWrite rows old trees × IsNewTo command old rows

-- A command was judged inside a transaction, and its rows written where it is new.
pub record Runs (command : Entry) (old new : State) (result : Result Reply TableFault) : Type 0 where
  pub ran : HasCleanDisk new → IsTrue old.in_transaction → (schema : Schema) → IsSettled schema → (book : List Entry) → old.now.schema ≡ schema → StandsIn schema old.now.trees book
      → MatchResult result (λ r. (r ≡ reply book command) × (new.now.schema ≡ schema) × StandsIn schema new.now.trees (behind book command r)) IsNoDamage
  pub wrote : HasCleanDisk new → IsTrue old.in_transaction → IfOk result (λ r. Wrote command r old new)
  pub judged : HasCleanDisk new → HasTablesOfRows old.now.schema → IfOk result (ReplyOf command old.now.trees)
  pub damaged : HasCleanDisk new → HasTablesOfRows old.now.schema → (name : TableName) → result ≡ Err (Damaged name) → IsDamaged name old.now.trees
  pub cause : IfErr result IsStop
  pub inside : HasCleanDisk new → IsTrue old.in_transaction → OnRead result (StaysInside old new)
  pub within : IsWithin old new

-- A command was handed in.
pub record Applies (command : Entry) (old new : State) (result : Result Reply TableFault) : Type 0 where
  pub clean : doubt old.is_clean ≤ doubt new.is_clean
  pub cause : IfErr result IsStop
  -- over any rows: the reply is by the verdict of each book as which the rows answer; only a command that was accepted, or stopped by the store, changes anything; and where it was accepted, the rows of this command were written and committed, with the number that is replied
  pub judged : HasCleanDisk new → HasTablesOfRows old.now.schema → IfOk result (ReplyOf command old.now.trees)
  pub untouched : IsIdle result → ChangesNothing old new
  -- what was answered was answered by a connection that is open, and a table is told damaged only where it is
  pub was_open : HasCleanDisk new → OnRead result (IsTrue old.is_open)
  pub damaged : HasCleanDisk new → HasTablesOfRows old.now.schema → (name : TableName) → result ≡ Err (Damaged name) → IsDamaged name old.now.trees
  pub written : HasCleanDisk new → (seq : ℕ) → result ≡ Ok (Accepted seq) → (rows : CommandRows) × AreItsRows command old rows × (rows.entry.seq ≡ seq) × IsWritten rows old new
  -- over the tables of a book, whatever tables and indexes there are behind those of the file: the reply is that of the book, and no table is told damaged; they stand for the book with the command where it was accepted, and else for the book; and whatever is answered, a crash leaves the one or the other
  pub said : (schema : Schema) → IsSettled schema → (book : List Entry) → RestsIn schema old book → HasCleanDisk new → MatchResult result (λ r. r ≡ reply book command) IsNoDamage
  pub kept : (schema : Schema) → IsSettled schema → (book : List Entry) → RestsIn schema old book → IfOk result (λ r. RestsIn schema new (behind book command r))
  pub same : (schema : Schema) → IsSettled schema → (book : List Entry) → RestsIn schema old book → IfErr result (λ e. e ≢ Store → RestsIn schema new book)
  pub crash : (schema : Schema) → IsSettled schema → (book : List Entry) → RestsIn schema old book → Leaves new (IsEitherIn schema book (book ++ command ∷ []))
