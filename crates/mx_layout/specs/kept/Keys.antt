-- The key of a row: the number in its first column, or that and the one in its second.
use Rattle.std.specs.Prelude.{ℕ, pos}
use Rattle.sqlite.specs.declared.types.Value.{Value}
use Rattle.sqlite.specs.declared.types.Value.TheVariants.{Int}
use Rattle.sqlite.specs.Order.{Row, column}
use Rattle.mx_base.specs.rows.Rows.{line_key}

-- the number that a value is, or 0
abbrev pub number_of : Value → ℕ
number_of (Int (pos n)) = n
number_of _ = 0

-- the key of a row whose first column is its key
abbrev pub one_key : Row → ℕ
one_key values = number_of (column values 0)

-- the key of a row whose first two columns are its key
abbrev pub two_key : Row → ℕ
two_key values = line_key (number_of (column values 0)) (number_of (column values 1))
