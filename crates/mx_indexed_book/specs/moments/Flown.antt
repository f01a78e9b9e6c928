-- Lives by moments, of sectors and spans in any order.
use Rattle.std.specs.Prelude.{ℕ, ◌-◌, ◌^◌, min, List, IsPermutation}
use Rattle.mx_base.specs.declared.amounts.Use.{Use}
use Rattle.mx_base.specs.declared.rows.rows.SectorRow.{SectorRow}
use Rattle.mx_base.specs.declared.rows.rows.SpanRow.{SpanRow}

-- the number of the component that a span is of
abbrev pub component_of : SpanRow → ℕ
component_of span = span.component

-- the use, or the most of either that a life has room for
abbrev pub at_most : Use → Use
at_most life = record { minutes = min life.minutes (2 ^ 32 - 1); cycles = min life.cycles (2 ^ 32 - 1) }

-- these are the sectors and the spans, in some order
pub record ArePermuted (sectors : List SectorRow) (spans : List SpanRow) (moments : List SectorRow × List SpanRow) : Type 0 where
  pub sectors_are : IsPermutation sectors moments.0
  pub spans_are : IsPermutation spans moments.1
