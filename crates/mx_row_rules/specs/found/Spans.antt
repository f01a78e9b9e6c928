-- What the rows of spans that were found say.
use Rattle.std.specs.Prelude.{ℕ, List, Bool, is_none, ◌&&◌, nat_eq, Option, Some, slice_get}
use Rattle.std.specs.List.{list_any}
use Rattle.std.specs.Option.{option_eq, option_map}
use Rattle.mx_book.specs.commands.Act.{Entry}
use Rattle.mx_book.specs.commands.Same.{same_text}
use Rattle.mx_book.specs.declared.commands.fitting.Fitting.{Fitting}
use Rattle.mx_book.specs.declared.commands.fitting.Removal.{Removal}
use Rattle.mx_registers.specs.Names.{serial_at}
use Rattle.mx_base.specs.declared.rows.rows.SpanRow.{SpanRow}

-- the span is of the component with this number, and nothing removed it
abbrev pub is_open_of : ℕ → SpanRow → Bool
is_open_of component row = nat_eq row.component component && is_none row.remove_seq

-- the span is of the aircraft with this number, and nothing removed its component
abbrev pub is_open_at : ℕ → SpanRow → Bool
is_open_at aircraft row = nat_eq row.aircraft aircraft && is_none row.remove_seq

-- the number of the aircraft of the first of these spans
abbrev pub span_aircraft : List SpanRow → Option ℕ
span_aircraft rows = option_map (λ row. row.aircraft) (slice_get rows 0)

-- the position of a span, and the serial number of its component
abbrev pub place_said : List Entry → SpanRow → Option (List ℕ × List ℕ)
place_said book row = option_map (λ serial. (row.position, serial)) (serial_at book row.component)

-- one of these spans is in this position
abbrev pub is_taken_in : List ℕ → List SpanRow → Bool
is_taken_in position rows = list_any (λ row. same_text row.position position) rows

-- the span begins with the fitting, of this component to this aircraft, of the entry with this number
abbrev pub begins_with : ℕ → ℕ → ℕ → Fitting → SpanRow → Bool
begins_with n component aircraft f row = nat_eq row.fit_seq n && (nat_eq row.component component && (nat_eq row.aircraft aircraft && (same_text row.position f.position && nat_eq row.from f.moment)))

-- the entry with this number removed the component of the span
abbrev pub is_removed_by : ℕ → SpanRow → Bool
is_removed_by n row = option_eq nat_eq row.remove_seq (Some n)

-- the span ends with the removal, of this component, by the entry with this number
abbrev pub ends_with : ℕ → ℕ → Removal → SpanRow → Bool
ends_with n component r row = is_removed_by n row && (nat_eq row.component component && option_eq nat_eq row.to (Some r.moment))
