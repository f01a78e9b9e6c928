-- The last base of a task of an item, as a row of `base2`.
use Rattle.std.specs.Prelude.{ℕ, pos, Bool, List, ◌&&◌}
use Rattle.sqlite.specs.declared.types.Value.TheVariants.{Int, Text}
use Rattle.sqlite.specs.Order.{Row}
use Rattle.mx_table_rows.specs.chosen.Choices.{has_value}

-- the row is that of this task of this item
abbrev pub is_of_task : ℕ → List ℕ → Row → Bool
is_of_task item task row = has_value 0 (Int (pos item)) row && has_value 1 (Text task) row
