-- When a row of a table is none of its type, whatever rows stand there, and of which table the rows of entries are.
use Rattle.std.specs.Prelude.{◌≡◌, ◌≢◌, ◌⊎◌, true, ◌∷◌, [], length}
use Rattle.sqlite.specs.Tree.{Trees}
use Rattle.mx_base.specs.declared.rows.rows.EntryKind.{EntryKind}
use Rattle.mx_base.specs.declared.rows.rows.EntryKind.TheVariants as kind
use Rattle.mx_base.specs.declared.point.Point.{Point}
use Rattle.mx_layout.specs.TableName.{TableName}
use Rattle.mx_layout.specs.declared.fault.TableFault.{TableFault}
use Rattle.mx_layout.specs.declared.fault.TableFault.TheVariants as fault
use Rattle.mx_layout.specs.declared.fault.Table.TheVariants as table
use Rattle.mx_layout.specs.Contents.{rows_in}
use Rattle.mx_layout.specs.Names.{table_named}
use Rattle.mx_layout.specs.Point.{IsPoint, IsStop, point_cells}
use Rattle.mx_layout.specs.Reading.{HasOther}
use Rattle.mx_layout.specs.Tables.{office}
use Rattle.mx_layout.specs.kept.Family.{IsReadable}
use Rattle.mx_book_tables.specs.stands.Family.{is_at}
use Rattle.mx_book_tables.specs.reading.Layout.{verified_point}

-- ── rows that are none of their type ──

-- some row of the table is none of its type; one of `office` is no point
abbrev pub HasBadRow : Trees → TableName → Type 0
HasBadRow trees table.Office = HasOther IsPoint (rows_in office trees)
HasBadRow trees name = HasOther (IsReadable name) (rows_in (table_named name) trees)

-- the one row of `office` is that of a point, or there is not exactly one
abbrev pub IsOfficeRead : Trees → Type 0
IsOfficeRead trees = ((at : Point) × (rows_in office trees ≡ point_cells at ∷ [])) ⊎ (length (rows_in office trees) ≢ 1)

-- ── the tables of entries ──

-- the table of the rows that entries of a kind have
abbrev pub table_of : EntryKind → TableName
table_of kind.AddAircraft = table.Aircraft
table_of kind.AddComponent = table.Component
table_of kind.LoadProgramme = table.Programme
table_of kind.Opening = table.Opening
table_of kind.Sector = table.Sector2
table_of kind.Fit = table.Span2
table_of kind.Remove = table.Span2
table_of kind.Release = table.Crs
table_of kind.Defer = table.Defect
table_of kind.Extend = table.Extension

-- ── what is told ──

-- why there is no answer: want of memory, the store, or a table of the layout that is damaged
abbrev pub IsCause : TableFault → Type 0
IsCause why = IsStop why ⊎ ((name : TableName) × (is_at verified_point name ≡ true) × (why ≡ fault.Damaged name))
