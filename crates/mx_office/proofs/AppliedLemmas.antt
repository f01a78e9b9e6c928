-- What one command that was handed in does over any rows, as a run cites it.
use Rattle.std.proofs.Common.{◌≡◌, ap, ℕ, IsTrue, Result, Ok, Err}
use Rattle.std.specs.Prelude.{IfOk}
use Rattle.sqlite.specs.State.{State, HasCleanDisk, Survives}
use Rattle.mx_book.specs.commands.Act.{Entry}
use Rattle.mx_book.specs.declared.verdict.Reply.{Reply}
use Rattle.mx_book.specs.declared.verdict.Reply.TheVariants.{Accepted}
use Rattle.mx_layout.specs.TableName.{TableName}
use Rattle.mx_layout.specs.declared.fault.TableFault.{TableFault}
use Rattle.mx_layout.specs.declared.fault.TableFault.TheVariants.{Damaged}
use Rattle.mx_tables.specs.Calls.{OnRead}
use Rattle.mx_lookups.specs.numbers.Damage.{IsDamaged}
use Rattle.mx_lookups.specs.numbers.Told.{TellsDamage}
use Rattle.mx_apply.specs.Applies.{Applies, HasOneCommit}
use Rattle.mx_apply.specs.Judged.{CommandDamage}
use Rattle.mx_office.specs.Faults.{call_answer}
use Rattle.mx_lookups.specs.numbers.Reads.{HasTablesOfRows}
use Rattle.mx_office.specs.OnTop.{WasEntered}

-- one command was handed in, and did this; and this a crash may leave of it
pub record Handed (command : Entry) (old new : State) (result : Result Reply TableFault) : Type 0 where
  pub applies : Applies command old new result
  pub survives : Survives old new (HasOneCommit command old)
  pub damage : TellsDamage (CommandDamage command) old new result

module _ (command : Entry) (old new : State) (result : Result Reply TableFault) (it : Handed command old new result) where
  -- its rows were written and committed where it was accepted
  pub was_entered : (seq : ℕ) → result ≡ Ok (Accepted seq) → HasCleanDisk new → WasEntered command seq old new
  was_entered seq is clean = it.applies.written clean seq is

  -- what was answered was answered by a connection that is open
  pub was_open : HasCleanDisk new → OnRead result (IsTrue old.is_open)
  was_open = it.applies.was_open

  -- a table is told damaged only where it is
  pub is_damaged : HasCleanDisk new → HasTablesOfRows old.now.schema → (name : TableName) → result ≡ Err (Damaged name) → IsDamaged name old.now.trees
  is_damaged = it.applies.damaged

  -- and by a row that judging or making the command chose
  pub is_told : HasCleanDisk new → HasTablesOfRows old.now.schema → (name : TableName) → result ≡ Err (Damaged name) → CommandDamage command name old.now.trees
  is_told = it.damage.told

-- a command that the office answers accepted was entered
pub entered : (command : Entry) (old new : State) (found : Result Reply TableFault) → Handed command old new found → HasCleanDisk new → IfOk (call_answer found) (λ said. (seq : ℕ) → said ≡ Accepted seq → WasEntered command seq old new)
entered command old new (Ok said) it clean = λ seq is. was_entered command old new (Ok said) it seq (ap Ok is) clean
entered command old new (Err fault) it clean = tt
