-- Rows of a table in whose place comes what is made of all of them together.
use Rattle.std.specs.Prelude.{◌≡◌, ◌⊎◌, Bool, List, All, Result}
use Rattle.sqlite.specs.Order.{Row}
use Rattle.sqlite.specs.Effect.{Database}
use Rattle.sqlite.specs.State.{State}
use Rattle.mx_layout.specs.declared.fault.TableFault.{TableFault}
use Rattle.mx_layout.specs.Contents.{rows_in}
use Rattle.mx_layout.specs.Names.{table_named}
use Rattle.mx_layout.specs.kept.Kept.{Kept}
use Rattle.mx_table_rows.specs.totals.Calls.{Becomes, ChangesTable}
use Rattle.mx_table_rows.specs.totals.Puts.{rows_instead}
use Rattle.mx_table_rows.specs.totals.Several.{AreExactly, HasUnreadable}

-- the rows that pass the test can be read, and what is made of them fits
pub record CanRemake {X : Type 0} (k : Kept X) (test : Row → Bool) (remade : List X → List X) (rows : List Row) : Type 0 where
  pub were : List X
  pub exactly : AreExactly k test rows were
  pub fit : All k.Fits (remade were)

-- what is made of the rows that pass the test does not fit
pub record MisfitRemade {X : Type 0} (k : Kept X) (test : Row → Bool) (remade : List X → List X) (rows : List Row) : Type 0 where
  pub were : List X
  pub exactly : AreExactly k test rows were
  pub misfit : ¬ All k.Fits (remade were)

-- a row that passes the test is none of the type, or what is made of them does not fit
abbrev pub CantRemake : {X : Type 0} → Kept X → (Row → Bool) → (List X → List X) → List Row → Type 0
CantRemake k test remade rows = HasUnreadable k test rows ⊎ MisfitRemade k test remade rows

-- what is made of the rows that pass the test
pub record AreRemade {X : Type 0} (k : Kept X) (test : Row → Bool) (remade : List X → List X) (rows : List Row) (xs : List X) : Type 0 where
  pub can : CanRemake k test remade rows
  pub are : xs ≡ remade can.were

-- what is made of the rows of the table that pass the test came in their place, and each other table of the schema is as it was
pub record IsRemade {X : Type 0} (k : Kept X) (test : Row → Bool) (remade : List X → List X) (old new : Database) : Type 0 where
  pub were : List X
  pub exactly : AreExactly k test (rows_in (table_named k.name) old.trees) were
  pub becomes : Becomes (table_named k.name) (rows_instead k test (remade were)) old new

-- what is made of the rows of a table that pass the test came in their place, and nothing else changed; or it can't be made, and nothing changed; or want of memory or the store stopped the call
abbrev pub RemakesRows : {X V : Type 0} → Kept X → (Row → Bool) → (List X → List X) → State → State → Result V TableFault → Type 0
RemakesRows k test remade old new result = ChangesTable k (IsRemade k test remade) (CanRemake k test remade) (CantRemake k test remade) old new result
