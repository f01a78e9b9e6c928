-- What a query over a whole table answers.
use Rattle.std.specs.Prelude.{◌≡◌, List, map, Contains, IsPermutation, IsSorted, Option, MatchOption}
use Rattle.std.specs.declared.cmp.Ordering.{Ordering}
use Rattle.std.specs.Ordering.{on, then_cmp}
use Rattle.sqlite.specs.Order.{Row, column, value_cmp}
use Rattle.sqlite.specs.Table.{Table}
use Rattle.sqlite.specs.Tree.{Trees}
use Rattle.sqlite.specs.State.{State, IsUnchanged}
use Rattle.mx_layout.specs.Contents.{rows_in}

-- exactly the rows of the table, in this order
pub record AreAllBy (order : Row → Row → Ordering) (table : Table) (trees : Trees) (rows : List Row) : Type 0 where
  pub all : IsPermutation (rows_in table trees) rows
  pub sorted : IsSorted order rows

-- the order of the first column
abbrev pub by_first : Row → Row → Ordering
by_first = on (λ r. column r 0) value_cmp

-- the order of the first column and, where that is the same, of the second
abbrev pub by_two : Row → Row → Ordering
by_two = then_cmp (on (λ r. column r 0) value_cmp) (on (λ r. column r 1) value_cmp)

-- the order of the first column and, where that is the same, of the second, and so on to the fourth
abbrev pub by_four : Row → Row → Ordering
by_four = then_cmp (on (λ r. column r 0) value_cmp) (then_cmp (on (λ r. column r 1) value_cmp) (then_cmp (on (λ r. column r 2) value_cmp) (on (λ r. column r 3) value_cmp)))

-- exactly the rows of the table, in the order of the first column
abbrev pub AreAll : Table → Trees → List Row → Type 0
AreAll = AreAllBy by_first

-- some row of the table is none of those
abbrev pub HasOther : (Row → Type 0) → List Row → Type 0
HasOther IsGood rows = (row : Row) × Contains rows row × ¬ IsGood row

-- the row is that of some X that fits
abbrev pub IsRowOf : {X : Type 0} → (X → Row) → (X → Type 0) → Row → Type 0
IsRowOf {X} as_cells Fits row = (x : X) × Fits x × (row ≡ as_cells x)

-- a register was read, or some row of its table is none, and nothing changed
pub record Reads {X V : Type 0} (table : Table) (as_cells : X → Row) (Fits : X → Type 0) (old new : State) (read : Option V) (items : V → List X) : Type 0 where
  pub same : IsUnchanged old new
  pub found : MatchOption read (HasOther (IsRowOf as_cells Fits) (rows_in table old.now.trees)) (λ v. AreAll table old.now.trees (map as_cells (items v)))
