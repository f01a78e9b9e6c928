-- Commands that are handed in to a file of the office, whatever rows its tables have: what their replies go by, and what each adds.
-- The tables behind commands are a chain: each reply is by the verdict on the tables that its command found, and leads
-- to those that the next one found, with its rows on top where it was accepted, and else as they were (`AreAnswered`,
-- `LeadsTo`). What a crash may leave is a chain and the rows of the next command (`MayLeave`). A chain grows at its
-- end, so that a loop has it as its invariant.
use Rattle.std.specs.Prelude.{◌≡◌, ◌⊎◌, ◌<◌, ◌+◌, ℕ, List, [], ◌∷◌, ◌++◌, length, take, true, IsTrue, IsPermutation, Option, Some}
use Rattle.sqlite.specs.Effect.{Database}
use Rattle.sqlite.specs.State.{State}
use Rattle.sqlite.specs.Tree.{Trees}
use Rattle.mx_book.specs.commands.Act.{Entry}
use Rattle.mx_book.specs.declared.verdict.Reply.{Reply}
use Rattle.mx_book.specs.declared.verdict.Reply.TheVariants.{Accepted}
use Rattle.mx_row_rules.specs.declared.changes.rows.CommandRows.{CommandRows}
use Rattle.mx_layout.specs.TableName.{TableName}
use Rattle.mx_layout.specs.Contents.{rows_in}
use Rattle.mx_layout.specs.Names.{table_named}
use Rattle.mx_book_tables.specs.stands.Family.{is_at}
use Rattle.mx_tables.specs.inserts.Sets.{GainsRows}
use Rattle.mx_lookups.specs.numbers.Damage.{IsDamaged}
use Rattle.mx_apply.specs.writing.Changes.{AllRise}
use Rattle.mx_apply.specs.writing.Commits.{IsWritten}
use Rattle.mx_apply.specs.writing.Written.{IsSettled, with_rows}
use Rattle.mx_apply.specs.made.Found.{AreRowsFor}
use Rattle.mx_apply.specs.Applies.{AreItsRows, ReplyOf}
use Rattle.mx_apply.specs.Judged.{CommandDamage}
use Rattle.mx_office.specs.Layout.{office_point}
use Rattle.mx_faults.specs.declared.fault.Fault.{Fault}
use Rattle.mx_faults.specs.declared.fault.Fault.TheVariants.{Store}

-- the file is one of the office, whatever rows its tables have, and whatever further tables and indexes: it has those of its point, their rowids rise, and all of it is committed
pub record IsOfOffice (s : State) : Type 0 where
  pub schema : IsSettled s.now.schema
  pub rises : AllRise s.now
  pub settled : s.now ≡ s.committed

-- the rows of this command, whose entry has this number, were written in a commit of their own
abbrev pub WasEntered : Entry → ℕ → State → State → Type 0
WasEntered command seq old new = (rows : CommandRows) × AreItsRows command old rows × (rows.entry.seq ≡ seq) × IsWritten rows old new

-- what tables are behind the reply to a command: where it was accepted they have its rows on top, and its entry has the number that is replied; else they are as they were
abbrev pub LeadsTo : Entry → Reply → Database → Database → Type 0
LeadsTo command (Accepted seq) before after = (rows : CommandRows) × AreRowsFor command before.trees rows × (rows.entry.seq ≡ seq) × GainsRows (with_rows rows) before after
LeadsTo command _ before after = after ≡ before

-- commands were answered, one after the other, over these tables: each reply is by the verdict on each book as which the tables answer that its command found, and leads to the tables that the next one found
abbrev pub AreAnswered : List Entry → List Reply → Database → Database → Type 0
AreAnswered [] [] before after = after ≡ before
AreAnswered (command ∷ commands) (reply ∷ said) before after = ReplyOf command before.trees reply × ((next : Database) × LeadsTo command reply before next × AreAnswered commands said next after)
AreAnswered _ _ before after = ⊥

-- the tables have the rows of this command, which is new to them, on top of those from before
pub record HasOnTop (command : Entry) (before : Database) (trees : Trees) : Type 0 where
  pub rows : CommandRows
  pub are_its : AreRowsFor command before.trees rows
  pub is_new : ReplyOf command before.trees (Accepted rows.entry.seq)
  pub tables : (name : TableName) → is_at office_point name ≡ true → IsPermutation (with_rows rows name (rows_in (table_named name) before.trees)) (rows_in (table_named name) trees)

-- what a crash may leave of commands that were handed in, beside the tables from before: the first so many were answered, and the next one is on top of the tables that these led to; it has a reply too, or the store failed at it
pub record MayLeave (commands : List Entry) (said : List Reply) (stop : Option Fault) (old : State) (trees : Trees) : Type 0 where
  pub was_open : IsTrue old.is_open
  pub count : ℕ
  pub next : Entry
  pub is_next : take (count + 1) commands ≡ take count commands ++ next ∷ []
  pub reached : (count < length said) ⊎ ((stop ≡ Some Store) × (count ≡ length said))
  pub before : Database
  pub answered : AreAnswered (take count commands) (take count said) old.now before
  pub on_top : HasOnTop next before trees

-- the commands that have a reply were answered over the tables from before, and led to those that there are, all of which is committed
pub record IsBehind (commands : List Entry) (said : List Reply) (old new : State) : Type 0 where
  pub was_open : IsTrue old.is_open
  pub answered : AreAnswered (take (length said) commands) said old.now new.now
  pub settled : new.now ≡ new.committed

-- the table is damaged in those that the commands that have a reply led to, and there a row that judging or making the next one chose tells it
pub record IsDamagedBehind (table : TableName) (commands : List Entry) (said : List Reply) (old : State) : Type 0 where
  pub was_open : IsTrue old.is_open
  pub found : Database
  pub answered : AreAnswered (take (length said) commands) said old.now found
  pub damaged : IsDamaged table found.trees
  pub next : Entry
  pub is_next : take (length said + 1) commands ≡ take (length said) commands ++ next ∷ []
  pub told : CommandDamage next table found.trees
