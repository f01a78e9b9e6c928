-- Several rows of a table, as what they are rows of.
use Rattle.std.specs.Prelude.{Bool, List, map, filter, All, IsPermutation, IsSorted}
use Rattle.sqlite.specs.Order.{Row}
use Rattle.mx_layout.specs.Reading.{HasOther}
use Rattle.mx_layout.specs.kept.Family.{IsReadableAs}
use Rattle.mx_layout.specs.kept.Kept.{Kept}

-- exactly the rows that pass the test, each as something that fits, in the order of the table
pub record AreExactly {X : Type 0} (k : Kept X) (test : Row → Bool) (rows : List Row) (xs : List X) : Type 0 where
  pub fit : All k.Fits xs
  pub those : IsPermutation (filter test rows) (map k.as_cells xs)
  pub sorted : IsSorted k.order (map k.as_cells xs)

-- a row that passes the test is none of the type
abbrev pub HasUnreadable : {X : Type 0} → Kept X → (Row → Bool) → List Row → Type 0
HasUnreadable k test rows = HasOther (IsReadableAs k) (filter test rows)
