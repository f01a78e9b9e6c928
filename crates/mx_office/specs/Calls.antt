-- What a call that hands commands to an office does to it, and what it promises, whichever call it is.
-- A run in which no command was looked for is answered by the connection as it was, of which no clause says that all is
-- committed; where one was looked for and none was accepted no table changes. The run has the one or the other
-- (`untouched`).
use Rattle.std.specs.Prelude.{◌≡◌, ◌≢◌, ◌⊎◌, ◌≤◌, ◌<◌, ◌+◌, List, [], ◌∷◌, length, take, IsTrue, Option, Some, None, Result, Ok, Err}
use Rattle.sqlite.specs.Store.{Ghosts}
use Rattle.sqlite.specs.Effect.{Database}
use Rattle.sqlite.specs.Schema.{Schema}
use Rattle.sqlite.specs.State.{State, HasCleanDisk, Survives}
use Rattle.sqlite_trees.specs.View.{doubt}
use Rattle.mx_book.specs.commands.Act.{Entry}
use Rattle.mx_book.specs.Run.{book_run, replies}
use Rattle.mx_book.specs.declared.verdict.Reply.{Reply}
use Rattle.mx_layout.specs.TableName.{TableName}
use Rattle.mx_layout.specs.Crash.{Leaves, ChangesNothing}
use Rattle.mx_apply.specs.writing.Written.{IsSettled}
use Rattle.mx_faults.specs.declared.fault.Ask.{Ask}
use Rattle.mx_faults.specs.declared.fault.Ask.TheVariants.{Refused, Failed}
use Rattle.mx_faults.specs.declared.fault.Fault.{Fault}
use Rattle.mx_faults.specs.declared.fault.Fault.TheVariants.{Memory, Store, NeedsReopen, Damaged}
use Rattle.mx_office.specs.declared.office.Office.{Office}
use Rattle.mx_office.specs.Office.{office_state, IsReady, IsInDoubt}
use Rattle.mx_office.specs.OnTop.{AreAnswered, IsBehind, IsDamagedBehind, IsOfOffice, MayLeave}
use Rattle.mx_office.specs.Stands.{IsEitherIn, NoneAccepted, RestsIn}

-- ── what stopped a call ──

-- the fault that a call answers, if it answers one
abbrev pub stop_in : {X : Type 0} → Result X Fault → Option Fault
stop_in (Ok x) = None
stop_in (Err fault) = Some fault

-- the fault that stopped a question, if one did: a refusal stops none
abbrev pub stop_of : Ask → Option Fault
stop_of (Refused refusal) = None
stop_of (Failed fault) = Some fault

abbrev pub stop_asking : {X : Type 0} → Result X Ask → Option Fault
stop_asking (Ok x) = None
stop_asking (Err why) = stop_of why

-- the replies to one command: the one that was given, or none
abbrev pub replies_in : Result Reply Fault → List Reply
replies_in (Ok reply) = reply ∷ []
replies_in (Err fault) = []

-- ── over the tables of a book ──

-- commands were handed in where the tables of this schema stood for this book: the first of them got these replies, and this stopped it before the next one, if anything did
pub record RunsOver (schema : Schema) (book commands : List Entry) (said : List Reply) (stop : Option Fault) (new : State) : Type 0 where
  -- each reply is that of the book behind the commands before it
  pub answered : HasCleanDisk new → said ≡ replies book (take (length said) commands)
  -- no table of a book is damaged
  pub whole : HasCleanDisk new → (table : TableName) → stop ≢ Some (Damaged table)
  -- the tables stand for the book behind the commands that have a reply
  pub kept : stop ≢ Some Store → RestsIn schema new (book_run book (take (length said) commands))
  -- a crash leaves that book, or the one behind the next command
  pub crash : Leaves new (IsEitherIn schema (book_run book (take (length said) commands)) (book_run book (take (length said + 1) commands)))

-- ── whether the office goes on ──

-- a call was stopped by this, if by anything
pub record MarksDoubt {S : Type 0} {g : Ghosts S} (stop : Option Fault) (old new : Office S g) : Type 0 where
  -- an office that has to be opened again is asked nothing: the call says so, and leaves it as it was
  pub reopen : IsInDoubt old → (stop ≡ Some NeedsReopen) × (new ≡ old)
  -- no other office says so
  pub usable : IsReady old → stop ≢ Some NeedsReopen
  -- it goes on, unless its store failed
  pub goes_on : IsReady old → stop ≢ Some Store → IsReady new
  -- and where its store failed it has to be opened again
  pub stopped : stop ≡ Some Store → IsInDoubt new
  -- what the disk failed in is not forgotten
  pub clean : doubt (office_state old).is_clean ≤ doubt (office_state new).is_clean

-- a call that changes no table was stopped by this, if by anything
pub record IsAsked {S : Type 0} {g : Ghosts S} (stop : Option Fault) (old new : Office S g) : Type 0 where
  -- whether the office goes on
  pub doubt : MarksDoubt stop old new
  -- no table changes
  pub untouched : IsReady old → ChangesNothing (office_state old) (office_state new)

-- ── over whatever rows ──

-- commands were handed in, whatever rows the tables have: the first of them got these replies, and this stopped it before the next one, if anything did
pub record RunsOverRows (commands : List Entry) (said : List Reply) (stop : Option Fault) (old new : State) : Type 0 where
  -- whatever it answered, a crash leaves the tables from before, or those with the first of the commands on top: as many as have a reply at most, or one more where the store failed
  pub crash : IsOfOffice old → Survives old new (MayLeave commands said stop old)
  -- what was replied, or told damaged, was so by a connection that is open
  pub was_open : HasCleanDisk new → (said ≢ []) ⊎ ((table : TableName) × (stop ≡ Some (Damaged table))) → IsTrue old.is_open
  -- each reply is by the verdict on each book as which the tables answer that its command found
  pub told : HasCleanDisk new → IsOfOffice old → (after : Database) × AreAnswered (take (length said) commands) said old.now after
  -- and the tables have the rows of the commands that were accepted on top
  pub sound : HasCleanDisk new → IsOfOffice old → IsTrue new.is_open → stop ≢ Some Store → IsBehind commands said old new
  -- a table is told to be damaged only where it is, in the tables that the command found, and by a row that it chose there
  pub damaged : HasCleanDisk new → IsOfOffice old → (table : TableName) → stop ≡ Some (Damaged table) → IsDamagedBehind table commands said old

-- ── a run ──

-- commands were handed in, one after the other: what a run promises of the tables
pub record HandsIn (commands : List Entry) (said : List Reply) (stop : Option Fault) (old new : State) : Type 0 where
  -- no fault of the disk is forgotten
  pub clean : doubt old.is_clean ≤ doubt new.is_clean
  -- no call of a connection says that the office has to be opened again
  pub usable : stop ≢ Some NeedsReopen
  -- one that is open was open before, unless the store failed
  pub opened : stop ≢ Some Store → HasCleanDisk new → IsTrue new.is_open → IsTrue old.is_open
  -- where a command was looked for and none was accepted no table changes
  pub untouched : NoneAccepted said → stop ≢ Some Store → (said ≢ []) ⊎ (stop ≢ None) → ChangesNothing old new
  -- what becomes of a book, in whatever schema that has the tables of the office
  pub over_book : (schema : Schema) → IsSettled schema → (book : List Entry) → RestsIn schema old book → RunsOver schema book commands said stop new
  -- what becomes of any rows
  pub over_rows : RunsOverRows commands said stop old new

-- commands were handed to an office, one after the other, each in a commit of its own: the first of them got these replies, and this stopped it before the next one, if anything did
pub record IsRun {S : Type 0} {g : Ghosts S} (commands : List Entry) (said : List Reply) (stop : Option Fault) (old new : Office S g) : Type 0 where
  -- no command has two replies
  pub counted : length said ≤ length commands
  -- each has one where nothing stopped it
  pub done : stop ≡ None → length said ≡ length commands
  -- what stopped it stopped it before a command, or before it looked for one
  pub cut : IsReady old → stop ≢ None → (length said < length commands) ⊎ ((commands ≡ []) × (stop ≡ Some Memory) × (new ≡ old))
  -- whether the office goes on
  pub doubt : MarksDoubt stop old new
  -- where no command was accepted no table changes
  pub untouched : NoneAccepted said → stop ≢ Some Store → (new.conn ≡ old.conn) ⊎ ChangesNothing (office_state old) (office_state new)
  -- what becomes of a book, in whatever schema that has the tables of the office
  pub over_book : (schema : Schema) → IsSettled schema → (book : List Entry) → RestsIn schema (office_state old) book → RunsOver schema book commands said stop (office_state new)
  -- what becomes of any rows
  pub over_rows : RunsOverRows commands said stop (office_state old) (office_state new)

-- commands were handed in, and P holds of the replies and of what stopped them, if anything did
abbrev pub Runs : {S : Type 0} {g : Ghosts S} → List Entry → Office S g → Office S g → (List Reply → Option Fault → Type 0) → Type 0
Runs commands old new P = (said : List Reply) × (stop : Option Fault) × IsRun commands said stop old new × P said stop
