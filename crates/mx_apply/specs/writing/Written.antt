-- What the rows of a command make of the rows of each table of layout 2.
use Rattle.std.specs.Prelude.{pos, Bool, ◌&&◌, List, [], ◌∷◌}
use Rattle.sqlite.specs.declared.types.Value.TheVariants.{Int, Text}
use Rattle.sqlite.specs.Order.{Row}
use Rattle.sqlite.specs.Schema.{Schema}
use Rattle.mx_base.specs.declared.point.Point.{Point}
use Rattle.mx_base.specs.Settled.{settled}
use Rattle.mx_registers.specs.declared.points.points.TheConstants.{NEWEST_LAYOUT}
use Rattle.mx_base.specs.declared.rows.rows.SpanRow.{SpanRow}
use Rattle.mx_base.specs.declared.rows.rows.TotalRow.{TotalRow}
use Rattle.mx_base.specs.declared.rows.rows.BaseRow.{BaseRow}
use Rattle.mx_row_rules.specs.declared.changes.rows.AddedRows.{AddedRows}
use Rattle.mx_row_rules.specs.declared.changes.rows.ChangedRows.{ChangedRows}
use Rattle.mx_row_rules.specs.declared.changes.rows.CommandRows.{CommandRows}
use Rattle.mx_layout.specs.TableName.{TableName}
use Rattle.mx_layout.specs.Contents.{HasNoReferences}
use Rattle.mx_layout.specs.kept.Cells.{kept_entry, kept_aircraft, kept_place, kept_component, kept_programme, kept_task, kept_opening, kept_crs, kept_crs_line, kept_defect, kept_extension, kept_sector2_rows, kept_span2, kept_total2, kept_base2}
use Rattle.mx_layout.specs.kept.Family.{on_top}
use Rattle.mx_table_rows.specs.chosen.Choices.{has_value}
use Rattle.mx_lookups.specs.numbers.Reads.{HasTablesOfRows}
use Rattle.mx_apply.specs.writing.Changes.{all_in_place}

-- the point of the files to which commands are written: settled at layout 2
abbrev pub written_point : Point
written_point = settled NEWEST_LAYOUT

-- the schema has the tables of a file that is settled at layout 2, and behind them whatever tables and indexes; no table refers to another
pub record IsSettled (schema : Schema) : Type 0 where
  pub tables : HasTablesOfRows schema
  pub plain : HasNoReferences schema

-- ── in whose place a row comes ──

-- the row is of the span that the same entry began
abbrev pub is_same_span : SpanRow → Row → Bool
is_same_span span row = has_value 0 (Int (pos span.fit_seq)) row

-- the row is of the total of the same item
abbrev pub is_same_total : TotalRow → Row → Bool
is_same_total total row = has_value 0 (Int (pos total.item)) row

-- the row is of the last base of the same task of the same item
abbrev pub is_same_base : BaseRow → Row → Bool
is_same_base base row = has_value 0 (Int (pos base.item)) row && has_value 1 (Text base.task) row

-- ── all tables ──

-- the rows of a table, with those that are added
abbrev pub with_added : AddedRows → TableName → List Row → List Row
with_added v name rows =
    on_top kept_total2 v.totals.items name (on_top kept_span2 v.spans.items name (on_top kept_sector2_rows v.sectors.items name (on_top kept_extension v.extensions.items name (on_top kept_defect v.deferrals.items name (on_top kept_crs_line v.release_lines.items name (on_top kept_crs v.releases.items name (on_top kept_opening v.openings.items name (on_top kept_task v.tasks.items name (on_top kept_programme v.programmes.items name (on_top kept_component v.components.items name (on_top kept_place v.places.items name (on_top kept_aircraft v.aircraft.items name rows))))))))))))

-- the rows of a table, with those that are changed in place of what they were
abbrev pub with_changed : ChangedRows → TableName → List Row → List Row
with_changed v name rows =
    all_in_place kept_base2 is_same_base v.bases.items name (all_in_place kept_total2 is_same_total v.totals.items name (all_in_place kept_span2 is_same_span v.spans.items name rows))

-- the rows of a table, with those of a command
abbrev pub with_rows : CommandRows → TableName → List Row → List Row
with_rows x name rows = with_added x.added name (with_changed x.changed name (on_top kept_entry (x.entry ∷ []) name rows))
