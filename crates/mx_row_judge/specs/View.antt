-- How the rows that a transaction shows are read as the records of a book.
use Rattle.std.specs.Prelude.{◌≡◌, ◌⊎◌, ⊤, List, Result, Ok, Err, IfOk, MatchResult}
use Rattle.sqlite.specs.Store.{Ghosts}
use Rattle.sqlite.specs.State.{HasCleanDisk}
use Rattle.sqlite.specs.Held.{Held, state}
use Rattle.sqlite.specs.Tree.{Trees}
use Rattle.mx_book.specs.commands.Act.{Entry}
use Rattle.mx_book.specs.Reading.{Reading}
use Rattle.mx_layout.specs.declared.fault.TableFault.{TableFault}
use Rattle.mx_lookups.specs.numbers.Reads.{Reads}
use Rattle.mx_lookups.specs.numbers.Told.{Damage, TellsDamage}
use Rattle.mx_row_judge.specs.Answering.{SpeaksFor}
use Rattle.mx_row_judge.specs.declared.view.Rows.{Rows}

-- anything was answered
abbrev pub IsAny : List Entry → ⊤ → Type 0
IsAny book answer = ⊤

-- questions, if any, were asked and answered: without one a connection is as it was
abbrev pub AskedOn : {S : Type 0} → Ghosts S → Held S → Held S → Type 0
AskedOn g old new = (new ≡ old) ⊎ Reads IsAny (state g old) (state g new) (Ok tt)

-- the last of some questions was not answered, and a table is told damaged only where this is so of the rows
pub record StoppedOn {S : Type 0} (g : Ghosts S) (Of : Damage) (old new : Held S) (fault : TableFault) : Type 0 where
  pub reads : Reads IsAny (state g old) (state g new) (Err fault)
  pub damage : TellsDamage {V = ⊤} Of (state g old) (state g new) (Err fault)

-- Questions, if any, were asked of a connection, and what came of them is so of each book as which its rows answer; a table is told damaged only where this is so of its rows.
pub record Asks {S V : Type 0} (g : Ghosts S) (AnswersAs : Trees → List Entry → Type 0) (Of : Damage) (Is : List Entry → V → Type 0) (old new : Held S) (result : Result V TableFault) : Type 0 where
  pub asked : MatchResult result (λ v. AskedOn g old new) (StoppedOn g Of old new)
  pub exact : HasCleanDisk (state g new) → (book : List Entry) → SpeaksFor AnswersAs (state g old) book → IfOk result (Is book)

-- the connection behind the rows
abbrev pub held : {S Q : Type 0} → Rows S Q → Held S
held rows = rows.tx.now.conn.now

-- the same transaction, over the same connection
pub record SharesWith {S Q : Type 0} (old new : Rows S Q) : Type 0 where
  pub tx : new.tx.ghost_name ≡ old.tx.ghost_name
  pub conn : new.tx.now.conn.ghost_name ≡ old.tx.now.conn.ghost_name

-- rows stand for each book as which they answer, questions leave the transaction and its connection, and each stops by a fault of a look-up
abbrev pub rows_reading : {S Q : Type 0} → Ghosts S → (Trees → List Entry → Type 0) → Damage → Reading (Rows S Q) TableFault
rows_reading g AnswersAs Of = record {
  Clean = λ rows. HasCleanDisk (state g (held rows));
  StandsFor = λ rows book. SpeaksFor AnswersAs (state g (held rows)) book;
  Asked = λ start rows. SharesWith start rows × AskedOn g (held start) (held rows);
  Stopped = λ start rows fault. SharesWith start rows × StoppedOn g Of (held start) (held rows) fault;
}
