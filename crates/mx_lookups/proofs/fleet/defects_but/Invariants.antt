use Rattle.std.proofs.Common.{◌≡◌, true, length}
use Rattle.std.specs.Prelude.{is_some}
use Rattle.sqlite.specs.Held.{state}
use Rattle.mx_registers.specs.Registers.{deferral_rows}
use Rattle.mx_layout.specs.kept.Cells.{kept_defect}
use Rattle.mx_table_rows.specs.chosen.Choices.{is_any}
use Rattle.mx_row_rules.specs.found.Defects.{deferred_said}
use Rattle.mx_lookups.proofs.FleetLemmas.{SaysBut, said_but}
use Rattle.mx_lookups.proofs.WalkLemmas.{Walks}
use Rattle.mx_lookups.proofs.fleet.defects_but.Given as goal

-- the open defects so far and those of the rows that are left are those of all rows
abbrev pub invariant-loop-row : goal.invariant-loop-row
invariant-loop-row g l = record {
  same_reference : l.tx.conn.ghost_name ≡ l.fn.tx.conn.ghost_name;
  walks : Walks kept_defect deferral_rows (said_but l.rectified) (λ book row. is_some (deferred_said book row) ≡ true) is_any (SaysBut l.rectified) (state g.S.Store l.fn.tx.conn.now) (state g.S.Store l.tx.conn.now) l.open.items l.rest;
}

abbrev pub decreases-loop-row : goal.decreases-loop-row
decreases-loop-row g l = length l.rest
