-- What the rows of totals and of last bases that were found say.
use Rattle.std.specs.Prelude.{ℕ, List, Option, slice_get}
use Rattle.std.specs.Option.{option_map}
use Rattle.mx_base.specs.declared.amounts.Base.{Base}
use Rattle.mx_base.specs.declared.amounts.Use.{Use}
use Rattle.mx_base.specs.rows.Rows.{base_in_row}
use Rattle.mx_base.specs.declared.rows.rows.BaseRow.{BaseRow}
use Rattle.mx_base.specs.declared.rows.rows.TotalRow.{TotalRow}

-- the clock in the first of these totals
abbrev pub clock_in : List TotalRow → Option ℕ
clock_in rows = option_map (λ row. row.clock) (slice_get rows 0)

-- the life in the first of these totals
abbrev pub life_in : List TotalRow → Option Use
life_in rows = option_map (λ row. row.life) (slice_get rows 0)

-- the base in the first of these rows
abbrev pub base_found : List BaseRow → Option Base
base_found rows = option_map base_in_row (slice_get rows 0)

-- the life that a base has reached
abbrev pub life_in_base : Base → Use
life_in_base base = record { minutes = base.minutes; cycles = base.cycles }
