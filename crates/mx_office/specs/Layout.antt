-- The point at which the office keeps its tables, settled at the newest layout. No other definition names a layout.
use Rattle.sqlite.specs.Schema.{Schema}
use Rattle.mx_base.specs.declared.point.Point.{Point}
use Rattle.mx_base.specs.Settled.{settled}
use Rattle.mx_book_tables.specs.stands.Schemas.{schema_at}
use Rattle.mx_registers.specs.declared.points.points.TheConstants.{NEWEST_LAYOUT}

-- the point of each file of the office
abbrev pub office_point : Point
office_point = settled NEWEST_LAYOUT

-- the schema of such a file
abbrev pub office_schema : Schema
office_schema = schema_at office_point
