-- Spans, and what becomes of the rows of `span2`.
use Rattle.std.specs.Prelude.{◌≡◌, ℕ, pos, Bool, List, ◌∷◌, map, filter}
use Rattle.sqlite.specs.declared.types.Value.TheVariants.{Int}
use Rattle.sqlite.specs.Order.{Row}
use Rattle.mx_base.specs.declared.rows.rows.SpanRow.{SpanRow}
use Rattle.mx_base.specs.rows.Spans.{has_between}
use Rattle.mx_layout.specs.kept.Cells.{kept_span2}
use Rattle.mx_table_rows.specs.chosen.Choices.{has_value, is_open}
use Rattle.mx_table_rows.specs.totals.Several.{AreExactly, HasUnreadable}
use Rattle.mx_table_rows.specs.declared.totals.spans.FittedComponent.{FittedComponent}

-- the row of a span, ended by this entry at this moment
abbrev pub ended : ℕ → ℕ → Row → Row
ended remove_seq to (fit_seq ∷ component ∷ aircraft ∷ position ∷ from ∷ no_entry ∷ no_moment ∷ rest) = fit_seq ∷ component ∷ aircraft ∷ position ∷ from ∷ Int (pos remove_seq) ∷ Int (pos to) ∷ rest
ended remove_seq to row = row

-- what a span says is fitted, and where
abbrev pub fitted_by : SpanRow → FittedComponent
fitted_by span = record { position = span.position; component = span.component }

-- exactly what the open spans of the aircraft say is fitted, in the order of the table
pub record AreFitted (aircraft : ℕ) (rows : List Row) (components : List FittedComponent) : Type 0 where
  pub spans : List SpanRow
  pub exactly : AreExactly kept_span2 (is_open 2 (Int (pos aircraft))) rows spans
  pub fitted : components ≡ map fitted_by spans

-- an open span of the aircraft is none of the type
abbrev pub HasOtherFitted : ℕ → List Row → Type 0
HasOtherFitted aircraft rows = HasUnreadable kept_span2 (is_open 2 (Int (pos aircraft))) rows

-- the span is that of a component that was fitted throughout a flight from off to on
abbrev pub was_fitted : ℕ → ℕ → SpanRow → Bool
was_fitted off on span = has_between off on span.from span.to

-- the component of a span
abbrev pub component_of : SpanRow → ℕ
component_of span = span.component

-- exactly the components that the spans of the aircraft say were fitted throughout a flight from off to on, in the order of the table
pub record AreDuring (aircraft off on : ℕ) (rows : List Row) (components : List ℕ) : Type 0 where
  pub spans : List SpanRow
  pub exactly : AreExactly kept_span2 (has_value 2 (Int (pos aircraft))) rows spans
  pub during : components ≡ map component_of (filter (was_fitted off on) spans)

-- a span of the aircraft is none of the type
abbrev pub HasOtherSpan : ℕ → List Row → Type 0
HasOtherSpan aircraft rows = HasUnreadable kept_span2 (has_value 2 (Int (pos aircraft))) rows
