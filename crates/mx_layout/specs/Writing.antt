-- What the statement that adds a row does to a connection.
use Rattle.std.specs.Prelude.{◌≡◌, ◌⊎◌, false, if◌then◌else◌}
use Rattle.sqlite.specs.Order.{Row}
use Rattle.sqlite.specs.Table.{Table}
use Rattle.sqlite.specs.Tree.{Trees}
use Rattle.sqlite.specs.Effect.{Database, IsDatabase}
use Rattle.sqlite.specs.State.{State, Shows, IsUnchanged, IsRolledBack}
use Rattle.mx_layout.specs.Contents.{Adds}

-- the row is added and nothing else, and outside a transaction it is committed
pub record Inserts (table : Table) (row : Row) (old new : State) : Type 0 where
  pub schema : new.now.schema ≡ old.now.schema
  pub adds : Adds old.now.schema.tables table row old.now.trees new.now.trees
  pub sound : IsDatabase new.now
  pub shown : Shows old new new.now (if old.in_transaction then old.committed else new.now) old.in_transaction
  pub marks : new.marks ≡ old.marks

-- what a crash within the statement may leave beside what it could leave before
abbrev pub MayInsert : Table → Row → State → Trees → Type 0
MayInsert table row old trees = (old.in_transaction ≡ false) × Adds old.now.schema.tables table row old.now.trees trees

-- nothing changed, or the transaction is undone
abbrev pub Stops : State → State → Type 0
Stops old new = IsUnchanged old new ⊎ IsRolledBack old new

-- the table gained the one row, inside a transaction
pub record Gains (table : Table) (row : Row) (old new : Database) : Type 0 where
  pub schema : new.schema ≡ old.schema
  pub adds : Adds old.schema.tables table row old.trees new.trees
  pub sound : IsDatabase new
