use Rattle.mx_registers.proofs.PointsProofs.MoveLemmas.{spans_moved, fittings_left, removals_left}
use Rattle.mx_registers.proofs.PointsProofs.NextComponents.{spans_next, fittings_next, removals_next}
use Rattle.mx_registers.proofs.points.moves.a_commit_moves_a_component.Goals as goal

pub returns : goal.returns
returns c =
    record { next_spans = spans_next; next_fittings = fittings_next; next_removals = removals_next; spans = spans_moved; fittings = fittings_left; removals = removals_left }
