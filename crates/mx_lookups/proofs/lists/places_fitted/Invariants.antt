use Rattle.std.proofs.Common.{◌≡◌, pos, true, filter, length}
use Rattle.std.specs.Prelude.{is_some}
use Rattle.sqlite.specs.declared.types.Value.TheVariants.{Int}
use Rattle.sqlite.specs.Held.{state}
use Rattle.mx_registers.specs.kept.Spans.{span_rows}
use Rattle.mx_layout.specs.kept.Cells.{kept_span2}
use Rattle.mx_table_rows.specs.chosen.Choices.{is_open}
use Rattle.mx_row_rules.specs.found.Spans.{is_open_at, place_said}
use Rattle.mx_lookups.specs.numbers.Given.{PlaceSaid}
use Rattle.mx_lookups.proofs.WalkLemmas.{Walks}
use Rattle.mx_lookups.proofs.lists.places_fitted.Given as goal

-- the places so far and those of the rows that are left are those of all rows
abbrev pub invariant-loop-row : goal.invariant-loop-row
invariant-loop-row g l = record {
  same_reference : l.tx.conn.ghost_name ≡ l.fn.tx.conn.ghost_name;
  walks : Walks kept_span2 (λ book. filter (is_open_at l.aircraft) (span_rows book)) place_said (λ book row. is_some (place_said book row) ≡ true) (is_open 2 (Int (pos l.aircraft))) PlaceSaid (state g.S.Store l.fn.tx.conn.now) (state g.S.Store l.tx.conn.now) l.places.items l.rest;
}

abbrev pub decreases-loop-row : goal.decreases-loop-row
decreases-loop-row g l = length l.rest
