-- What is found of a file in which a book was being made.
use Rattle.std.specs.Prelude.{◌⊎◌, [], Result, Ok, Err}
use Rattle.sqlite.specs.Tree.{Trees}
use Rattle.sqlite.specs.State.{State, HasCleanDisk}
use Rattle.sqlite_catalog.specs.Listing.{IsSound}
use Rattle.mx_layout.specs.declared.fault.TableFault.{TableFault}
use Rattle.mx_layout.specs.declared.fault.TableFault.TheVariants.{Store}
use Rattle.mx_layout.specs.Crash.{RestsAs}
use Rattle.mx_layout.specs.Tables.{no_schema}
use Rattle.mx_office.specs.Stands.{Rests, Stands}

-- no transaction is open, there is no table, and each state that a crash may leave has none
abbrev pub IsBare : State → Type 0
IsBare now = RestsAs now no_schema (IsSound no_schema)

-- The empty book, where it was made; that or no table, where the store failed; no table where something else stopped it.
abbrev pub IsMade : {X : Type 0} → Result X TableFault → State → Type 0
IsMade (Ok made) now = Rests now []
IsMade (Err Store) now = Rests now [] ⊎ IsBare now
IsMade (Err _) now = IsBare now

-- so it is, where the disk returns what was written
abbrev pub FindsMade : {X : Type 0} → Result X TableFault → State → Type 0
FindsMade answer now = HasCleanDisk now → ∥ IsMade answer now ∥₁

-- the same of tables that a crash may leave
abbrev pub MayBeMade : {X : Type 0} → Result X TableFault → Trees → Type 0
MayBeMade (Ok made) db = Stands db []
MayBeMade (Err Store) db = Stands db [] ⊎ IsSound no_schema db
MayBeMade (Err _) db = IsSound no_schema db
