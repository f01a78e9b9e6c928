-- Tables of the registers that have a row whose number no entry can have.
use Rattle.std.specs.Prelude.{ℕ, nat_lt, ◌||◌, Bool, false, List, Option, Some, None, if◌then◌else◌}
use Rattle.std.specs.List.{list_any}
use Rattle.mx_book.specs.declared.limits.TheConstants.{MOST_ENTRIES}
use Rattle.mx_base.specs.declared.rows.register_rows.RegisterRows.{RegisterRows}
use Rattle.mx_base.specs.declared.rows.rows.SpanRow.{SpanRow}
use Rattle.mx_layout.specs.TableName.{TableName}
use Rattle.mx_layout.specs.declared.fault.Table.TheVariants as table
use Rattle.mx_registers.specs.declared.file.file_rows.FileRows.{FileRows}

-- no entry can have this number
abbrev pub is_late : ℕ → Bool
is_late number = nat_lt MOST_ENTRIES number

-- some row has such a number
abbrev pub has_late : {Row : Type 0} → (Row → ℕ) → List Row → Bool
has_late number rows = list_any (λ row. is_late (number row)) rows

-- the number of the removal, if there is one, is none that an entry can have
abbrev pub is_late_end : Option ℕ → Bool
is_late_end None = false
is_late_end (Some number) = is_late number

-- the fitting of the span, or its removal, has such a number
abbrev pub is_late_span : SpanRow → Bool
is_late_span row = is_late row.fit_seq || is_late_end row.remove_seq

-- this table where it has such a row, else what is found in those behind it
abbrev pub or_behind : Bool → TableName → Option TableName → Option TableName
or_behind late name behind = if late then Some name else behind

-- of what is flown, fitted and deferred, the first table with such a row
abbrev pub late_use : RegisterRows → List SpanRow → Option TableName
late_use rows spans =
    or_behind (has_late (λ row. row.seq) rows.deferrals.items) table.Defect
    (or_behind (has_late (λ row. row.seq) rows.extensions.items) table.Extension
    (or_behind (has_late (λ row. row.seq) rows.sectors.items) table.Sector2
    (or_behind (list_any is_late_span spans) table.Span2 None)))

-- of programmes and what is done by them, the first
abbrev pub late_upkeep : RegisterRows → Option TableName → Option TableName
late_upkeep rows behind =
    or_behind (has_late (λ row. row.seq) rows.programmes.items) table.Programme
    (or_behind (has_late (λ row. row.seq) rows.tasks.items) table.Task
    (or_behind (has_late (λ row. row.seq) rows.openings.items) table.Opening
    (or_behind (has_late (λ row. row.seq) rows.releases.items) table.Crs
    (or_behind (has_late (λ row. row.seq) rows.release_lines.items) table.CrsLine behind))))

-- of the items, the first
abbrev pub late_item : RegisterRows → Option TableName → Option TableName
late_item rows behind =
    or_behind (has_late (λ row. row.seq) rows.aircraft.items) table.Aircraft
    (or_behind (has_late (λ row. row.seq) rows.places.items) table.Place
    (or_behind (has_late (λ row. row.seq) rows.components.items) table.Component behind))

-- of all registers, in the order in which they are read, the first table with a row whose number no entry can have
abbrev pub late_table : FileRows → Option TableName
late_table rows =
    let own = rows.registers.rows in
    or_behind (has_late (λ row. row.seq) rows.registers.entries.items) table.Entry (late_item own (late_upkeep own (late_use own rows.spans.items)))
