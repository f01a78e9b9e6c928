-- The point whose tables are verified, the newest layout where no move has begun, and the tables of a file there.
use Rattle.sqlite.specs.Schema.{Schema}
use Rattle.mx_base.specs.declared.point.Point.{Point}
use Rattle.mx_base.specs.Settled.{settled}
use Rattle.mx_registers.specs.declared.points.points.TheConstants.{NEWEST_LAYOUT}
use Rattle.mx_book_tables.specs.stands.Schemas.{HasTablesAt}

-- the point whose tables are verified
abbrev pub verified_point : Point
verified_point = settled NEWEST_LAYOUT

-- the schema has the tables of a file at that point, and then any others
abbrev pub HasTables : Schema → Type 0
HasTables = HasTablesAt verified_point
