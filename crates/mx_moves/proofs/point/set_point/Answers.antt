use Rattle.std.proofs.Common.{[], ◌∷◌}
use Rattle.sqlite.specs.Held.{state}
use Rattle.mx_layout.specs.kept.Family.{on_top}
use Rattle.mx_layout.proofs.KeptProofs.OntoLemmas.{on_top_keeps}
use Rattle.mx_moves.specs.Changes.{less}
use Rattle.mx_moves.specs.Keeping.{kept_point, is_point_row}
use Rattle.mx_moves.specs.Schemas.{IsFree}
use Rattle.mx_moves.proofs.RowLemmas.{rows_then}
use Rattle.mx_moves.proofs.point.set_point.Goals as goal

pub returns-clause-writes : goal.returns-clause-writes
returns-clause-writes g c =
    rows_then (IsFree kept_point) (less kept_point is_point_row) (on_top kept_point (c.args.at.now ∷ [])) (on_top_keeps kept_point (c.args.at.now ∷ []))
    (state g.S.Store c.args.tx.now.conn.now) (state g.S.Store c.delete_point.new.tx.conn.now) (state g.S.Store c.insert_point.new.tx.conn.now) _ c.insert_point.result c.in_ok-delete_point.ensures.writes c.insert_point.ensures.writes
