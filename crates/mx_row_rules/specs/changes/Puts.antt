-- Rows that come in place of others, one after another.
use Rattle.std.specs.Prelude.{ℕ, Bool, nat_eq, not, List, [], ◌∷◌, filter}
use Rattle.mx_base.specs.declared.rows.rows.SpanRow.{SpanRow}
use Rattle.mx_base.specs.declared.rows.rows.TotalRow.{TotalRow}

-- each of these rows in place of those that are the same, one after another
abbrev pub rows_put : {Row : Type 0} → (Row → Row → Bool) → List Row → List Row → List Row
rows_put same [] rows = rows
rows_put same (row ∷ more) rows = rows_put same more (row ∷ filter (λ other. not (same row other)) rows)

-- another row has the number of this one
abbrev pub has_number_of : {Row : Type 0} → (Row → ℕ) → Row → Row → Bool
has_number_of number row other = nat_eq (number other) (number row)

-- spans, each in place of that of the same fitting
abbrev pub spans_put : List SpanRow → List SpanRow → List SpanRow
spans_put = rows_put (has_number_of (λ row. row.fit_seq))

-- totals, each in place of that of the same item
abbrev pub totals_put : List TotalRow → List TotalRow → List TotalRow
totals_put = rows_put (has_number_of (λ row. row.item))
