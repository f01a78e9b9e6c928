-- Rows in the order of their keys.
use Rattle.std.specs.Prelude.{ℕ, List, IsPermutation}
use Rattle.mx_base.specs.rows.Rising.{IsFrom}

-- these are the rows, in the order of their keys
pub record ArePut {Row : Type 0} (key : Row → ℕ) (rows put : List Row) : Type 0 where
  pub same : IsPermutation rows put
  pub order : IsFrom key 0 put
