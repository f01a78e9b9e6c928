-- How the point is kept as the one row of `office`.
use Rattle.std.specs.Prelude.{pos, Bool, List}
use Rattle.sqlite.specs.declared.types.Value.TheVariants.{Int}
use Rattle.sqlite.specs.Order.{Row}
use Rattle.mx_base.specs.declared.point.Point.{Point}
use Rattle.mx_layout.specs.TableName.{TableName}
use Rattle.mx_layout.specs.declared.fault.Table.TheVariants as table
use Rattle.mx_layout.specs.Point.{point_cells, FitsPoint}
use Rattle.mx_layout.specs.kept.Kept.{Kept, numbered}
use Rattle.mx_layout.specs.kept.Schemas.{HasPermanent}
use Rattle.mx_table_rows.specs.chosen.Choices.{has_value}
use Rattle.mx_moves.specs.Changes.{in_place}

-- points, as rows of `office`
abbrev pub kept_point : Kept Point
kept_point = numbered table.Office HasPermanent FitsPoint point_cells

-- the row that has the key of the one row of `office`
abbrev pub is_point_row : Row → Bool
is_point_row = has_value 0 (Int (pos 1))

-- this point in place of the one that was there
abbrev pub point_set : Point → TableName → List Row → List Row
point_set at = in_place kept_point is_point_row at
