-- The spans that fittings and removals of one component make.
use Rattle.std.specs.Prelude.{◌≡◌, ◌⊎◌, ◌≤◌, ◌<◌, ◌+◌, ℕ, nat_le, nat_lt, Bool, true, List, [], ◌∷◌, drop, slice_get, Option, Some, None, Result, Ok, Err, if◌then◌else◌}
use Rattle.std.specs.List.{list_all}
use Rattle.mx_book.specs.declared.limits.TheConstants.{MOST_ENTRIES}
use Rattle.mx_base.specs.declared.rows.rows.FittingRow.{FittingRow}
use Rattle.mx_base.specs.declared.rows.rows.RemovalRow.{RemovalRow}
use Rattle.mx_base.specs.declared.rows.rows.SpanRow.{SpanRow}
use Rattle.mx_layout.specs.TableName.{TableName}
use Rattle.mx_layout.specs.declared.fault.Table.TheVariants as table

-- the span of a fitting that no removal ends
abbrev pub span_open : FittingRow → SpanRow
span_open f = record { fit_seq = f.seq; component = f.component; aircraft = f.aircraft; position = f.position; from = f.moment; remove_seq = None; to = None }

-- the span from a fitting to a removal
abbrev pub span_closed : FittingRow → RemovalRow → SpanRow
span_closed f r = record { fit_seq = f.seq; component = f.component; aircraft = f.aircraft; position = f.position; from = f.moment; remove_seq = Some r.seq; to = Some r.moment }

-- the next fitting, if there is one, comes behind an entry
abbrev pub is_before : ℕ → List FittingRow → Bool
is_before n [] = true
is_before n (f ∷ fs) = nat_lt n f.seq

-- the span of a fitting that nothing is to end; or the table of a fitting that comes before this one has ended
abbrev pub last_span : FittingRow → List FittingRow → Result SpanRow TableName
last_span f [] = Ok (span_open f)
last_span f (later ∷ more) = Err table.Fit1

-- the span of a fitting and the removal that ends it, with the fittings behind; or the table with a row that is out of turn
abbrev pub next_span : FittingRow → List FittingRow → Option RemovalRow → Result SpanRow TableName
next_span f later None = last_span f later
next_span f later (Some r) = if nat_lt f.seq r.seq then (if is_before r.seq later then Ok (span_closed f r) else Err table.Fit1) else Err table.Removal1

-- a span in front of others, where there are both
abbrev pub with_front : Result SpanRow TableName → Result (List SpanRow) TableName → Result (List SpanRow) TableName
with_front (Err name) rest = Err name
with_front (Ok span) (Err name) = Err name
with_front (Ok span) (Ok spans) = Ok (span ∷ spans)

-- no removal is left without a fitting
abbrev pub none_over : List RemovalRow → Result (List SpanRow) TableName
none_over [] = Ok []
none_over (r ∷ rs) = Err table.Removal1

-- the spans of fittings and removals that take turns, a fitting first; or the table with the first row that is out of turn
abbrev pub paired : List FittingRow → List RemovalRow → Result (List SpanRow) TableName
paired [] removals = none_over removals
paired (f ∷ later) removals = with_front (next_span f later (slice_get removals 0)) (paired later (drop 1 removals))

-- an entry can have this number
abbrev pub is_number : ℕ → Bool
is_number n = nat_le n MOST_ENTRIES

-- the fittings have numbers that entries can have
abbrev pub are_fittings_numbered : List FittingRow → Bool
are_fittings_numbered fittings = list_all (λ (row : FittingRow). is_number row.seq) fittings

-- the removals have numbers that entries can have
abbrev pub are_removals_numbered : List RemovalRow → Bool
are_removals_numbered removals = list_all (λ (row : RemovalRow). is_number row.seq) removals

-- the spans of fittings and removals that have numbers of entries and take turns; or the table with a row that has no such number, else with the first that is out of turn
abbrev pub spans_made : List FittingRow → List RemovalRow → Result (List SpanRow) TableName
spans_made fittings removals =
    if are_fittings_numbered fittings then (if are_removals_numbered removals then paired fittings removals else Err table.Removal1) else Err table.Fit1

-- each span ends before the next begins, at most the last is open, and all numbers are from the one up to below the other
abbrev pub AreTurns : ℕ → List SpanRow → ℕ → Type 0
AreTurns low [] high = low ≤ high
AreTurns low (s ∷ rest) high =
    (low ≤ s.fit_seq) × (((n : ℕ) × (m : ℕ) × (s.remove_seq ≡ Some n) × (s.to ≡ Some m) × (s.fit_seq < n) × AreTurns (n + 1) rest high) ⊎ ((s.remove_seq ≡ None) × (s.to ≡ None) × (rest ≡ []) × (s.fit_seq < high)))
