-- The spans that fittings and removals make, and the fittings and removals of spans.
use Rattle.std.specs.Prelude.{◌≡◌, ◌⊎◌, ◌≤◌, ◌<◌, ℕ, Bool, ◌&&◌, nat_eq, nat_lt, List, [], ◌∷◌, ◌++◌, map, find, Option, Some, None, if◌then◌else◌}
use Rattle.std.specs.BTreeMap.{BTreeMap, get}
use Rattle.std.specs.Ordering.{nat_cmp}
use Rattle.std.specs.Option.{option_map}
use Rattle.mx_base.specs.declared.rows.rows.FittingRow.{FittingRow}
use Rattle.mx_base.specs.declared.rows.rows.RemovalRow.{RemovalRow}
use Rattle.mx_base.specs.declared.rows.rows.SpanRow.{SpanRow}

-- the removal is of this component
abbrev pub is_of : ℕ → RemovalRow → Bool
is_of component removal = nat_eq component removal.component

-- the removal is of the component that is fitted, and comes behind the fitting
abbrev pub is_behind : FittingRow → RemovalRow → Bool
is_behind fitting removal = is_of fitting.component removal && nat_lt fitting.seq removal.seq

-- the span that a fitting begins, and that a removal ends, where there is one
abbrev pub span_by : FittingRow → Option RemovalRow → SpanRow
span_by fitting removal = record {
  fit_seq = fitting.seq;
  component = fitting.component;
  aircraft = fitting.aircraft;
  position = fitting.position;
  from = fitting.moment;
  remove_seq = option_map (λ r. r.seq) removal;
  to = option_map (λ r. r.moment) removal;
}

-- the span that a fitting begins: until the first removal of its component behind it
abbrev pub span_made : List RemovalRow → FittingRow → SpanRow
span_made removals fitting = span_by fitting (find (is_behind fitting) removals)

-- the spans that fittings and removals make
abbrev pub spans_made : List FittingRow → List RemovalRow → List SpanRow
spans_made fittings removals = map (span_made removals) fittings

-- there is none, or the last is not behind the entry with this number
abbrev pub EndsBefore : ℕ → List RemovalRow → Type 0
EndsBefore seq removals = (removals ≡ []) ⊎ ((last : RemovalRow) × (earlier : List RemovalRow) × (removals ≡ earlier ++ last ∷ []) × (last.seq ≤ seq))

-- the last removal and those before it, where it comes behind the entry with this number; or none does
abbrev pub IsLastBehind : ℕ → List RemovalRow → Option (RemovalRow × List RemovalRow) → Type 0
IsLastBehind seq removals (Some found) = (removals ≡ found.1 ++ found.0 ∷ []) × (seq < found.0.seq)
IsLastBehind seq removals None = EndsBefore seq removals

-- the map has the removal for its component, and what it had for the others
abbrev pub HasPut : RemovalRow → BTreeMap ℕ RemovalRow → BTreeMap ℕ RemovalRow → Type 0
HasPut removal old new = (component : ℕ) → get nat_cmp new component ≡ (if is_of component removal then Some removal else get nat_cmp old component)
