-- What several columns of a row hold.
use Rattle.std.specs.Prelude.{◌≡◌, ℕ, ◌+◌, pos, map}
use Rattle.std.specs.List.{range_with_len}
use Rattle.sqlite.specs.declared.types.Value.TheVariants.{Int}
use Rattle.sqlite.specs.Order.{Row, column}
use Rattle.mx_base.specs.declared.amounts.Limit.{Limit}
use Rattle.mx_base.specs.declared.category.Category.{Category}
use Rattle.mx_base.specs.rows.Rows.{category_number, days_stated}
use Rattle.mx_layout.specs.kept.Values.{number_or_null}

-- the values in the first so many columns of a row
abbrev pub columns_of : ℕ → Row → Row
columns_of count row = map (column row) (range_with_len 0 count)

-- three columns from this one on hold the limit: its minutes, its cycles and its days
pub record HoldsLimit (row : Row) (at : ℕ) (limit : Limit) : Type 0 where
  pub minutes : column row at ≡ number_or_null limit.minutes
  pub cycles : column row (at + 1) ≡ number_or_null limit.cycles
  pub days : column row (at + 2) ≡ number_or_null limit.days

-- two columns from this one on hold the category: its number, and the days that it states
pub record HoldsCategory (row : Row) (at : ℕ) (category : Category) : Type 0 where
  pub number : column row at ≡ Int (pos (category_number category))
  pub days : column row (at + 1) ≡ number_or_null (days_stated category)
