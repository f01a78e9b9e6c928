use Rattle.std.proofs.Common.{◌+◌, ℕ, length}
use Rattle.mx_base.specs.rows.Rising.{IsRising}
use Rattle.mx_base.specs.declared.rows.rows.FittingRow.{FittingRow}
use Rattle.mx_base.specs.declared.rows.rows.RemovalRow.{RemovalRow}
use Rattle.mx_registers.proofs.FileProofs.WalkLemmas.{Walks}
use Rattle.mx_registers.proofs.file.spans.spans_made.Given as goal

-- the spans of the fittings behind those that are left are made
abbrev pub invariant-loop-fitting : goal.invariant-loop-fitting
invariant-loop-fitting l = (high : ℕ) → IsRising (λ (row : FittingRow). row.seq) 0 l.fittings high → IsRising (λ (row : RemovalRow). row.seq) 0 l.removals high → Walks l.fittings l.removals l.rest l.left l.ends l.made.items

abbrev pub decreases-loop-fitting : goal.decreases-loop-fitting
decreases-loop-fitting l = length l.rest + length l.left
