-- The spans of a book as rows, and what one command makes of them.
use Rattle.std.specs.Prelude.{ℕ, ◌+◌, List, [], ◌∷◌, ◌++◌, map, Bool, false, Option, Some, None, is_none, find, nat_eq, ◌&&◌, if◌then◌else◌}
use Rattle.mx_book.specs.commands.Act.{Act, Entry, Removed}
use Rattle.mx_book.specs.commands.Same.{same_text}
use Rattle.mx_book.specs.Span.{Span, span_begun}
use Rattle.mx_registers.specs.Registers.{next}
use Rattle.mx_base.specs.declared.rows.rows.FittingRow.{FittingRow}
use Rattle.mx_base.specs.declared.rows.rows.RemovalRow.{RemovalRow}
use Rattle.mx_base.specs.declared.rows.rows.SpanRow.{SpanRow}
use Rattle.mx_registers.specs.kept.Items.{number_of_serial, number_of_tail}

-- the entry removes the component
abbrev pub removes : List ℕ → Act → Bool
removes serial (Removed r) = same_text r.serial serial
removes serial _ = false

-- the number of the first entry that removes a component, where the entries are numbered from k
abbrev pub removal_from : List ℕ → ℕ → List Entry → Option ℕ
removal_from serial k [] = None
removal_from serial k (entry ∷ later) = if removes serial entry.act then Some k else removal_from serial (k + 1) later

-- the row of a span, which the entry behind some entries begins and which these later ones follow
abbrev pub span_row : List Entry → List Entry → Span → SpanRow
span_row before later s = record {
  fit_seq = next before;
  component = number_of_serial before s.serial;
  aircraft = number_of_tail before s.tail;
  position = s.position;
  from = s.from;
  remove_seq = removal_from s.serial (next before + 1) later;
  to = s.to;
}

-- the rows of the spans that entries begin behind these before them
abbrev pub span_rows_from : List Entry → List Entry → List SpanRow
span_rows_from before [] = []
span_rows_from before (entry ∷ later) = map (span_row before later) (span_begun entry.act later) ++ span_rows_from (before ++ entry ∷ []) later

-- the spans of a book, in the order of the fittings
abbrev pub span_rows : List Entry → List SpanRow
span_rows book = span_rows_from [] book

-- ── one command ──

-- the span is open and of the component with this number
abbrev pub is_open_of : ℕ → SpanRow → Bool
is_open_of component row = is_none row.to && nat_eq row.component component

-- the row of the open span of the component with a number, where it has one
abbrev pub open_span_in : List SpanRow → ℕ → Option SpanRow
open_span_in rows component = find (is_open_of component) rows

-- the entry ends the span: it is open, and the entry removes its component
abbrev pub is_span_touched : List Entry → Act → SpanRow → Bool
is_span_touched before (Removed r) row = is_open_of (number_of_serial before r.serial) row
is_span_touched before _ row = false

-- the row of a span, ended where it is open and the entry removes its component
abbrev pub span_ended : List Entry → Act → SpanRow → SpanRow
span_ended before (Removed r) row =
    if is_open_of (number_of_serial before r.serial) row then record row { remove_seq = Some (next before); to = Some r.moment } else row
span_ended before _ row = row

-- the row of the span that an entry begins, where it fits a component
abbrev pub spans_opened : List Entry → Act → List SpanRow
spans_opened before act = map (span_row before []) (span_begun act [])

-- ── what the row of a span says ──

-- the fitting that begins it
abbrev pub fitting_in : SpanRow → FittingRow
fitting_in row = record { seq = row.fit_seq; component = row.component; aircraft = row.aircraft; position = row.position; moment = row.from }

-- the removal of a component at a moment by an entry with a number, where there are both
abbrev pub removal_by : ℕ → Option ℕ → Option ℕ → Option RemovalRow
removal_by component None seq = None
removal_by component (Some moment) None = None
removal_by component (Some moment) (Some seq) = Some (record { seq = seq; component = component; moment = moment })

-- the removal that ends it, where it has ended
abbrev pub removal_in : SpanRow → Option RemovalRow
removal_in row = removal_by row.component row.to row.remove_seq
