-- Which rows of the tables a command names by its rules.
use Rattle.std.specs.Prelude.{◌≡◌, ℕ, pos, true, List, [], map, Contains}
use Rattle.sqlite.specs.declared.types.Value.TheVariants.{Int}
use Rattle.sqlite.specs.Order.{Row}
use Rattle.mx_book.specs.commands.Act.{Act, Removed}
use Rattle.mx_base.specs.declared.rows.rows.BaseRow.{BaseRow}
use Rattle.mx_layout.specs.TableName.{TableName}
use Rattle.mx_layout.specs.declared.fault.Table.TheVariants as table
use Rattle.mx_table_rows.specs.chosen.Choices.{has_value}
use Rattle.mx_row_rules.specs.changes.Made.{Findings, bases_made}
use Rattle.mx_apply.specs.made.Found.{numbers_given}
use Rattle.mx_apply.specs.writing.Written.{is_same_base}

-- the first column of the row has one of the numbers
abbrev pub IsNumbered : List ℕ → Row → Type 0
IsNumbered ns row = (n : ℕ) × Contains ns n × (has_value 0 (Int (pos n)) row ≡ true)

-- the numbers of the spans that a removal ends
abbrev pub numbers_ended : Act → Findings → List ℕ
numbers_ended (Removed removal) found = map (λ span. span.fit_seq) found.spans
numbers_ended _ found = []

-- the row is a span that the command ends, a total to which it gives a sector or a moment, or a last base that it sets anew; no other table has such a row
abbrev pub IsNamed : Act → Findings → TableName → Row → Type 0
IsNamed act found table.Span2 row = IsNumbered (numbers_ended act found) row
IsNamed act found table.Total2 row = IsNumbered (numbers_given act found) row
IsNamed act found table.Base2 row = (base : BaseRow) × Contains (bases_made act found) base × (is_same_base base row ≡ true)
IsNamed act found _ row = ⊥
