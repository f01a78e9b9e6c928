use Rattle.sqlite.specs.Held.{state}
use Rattle.mx_layout.specs.kept.Cells.{kept_total2}
use Rattle.mx_moves.proofs.RowLemmas.{inserts_write}
use Rattle.mx_moves.proofs.rows.insert_total.Goals as goal

pub returns-clause-writes : goal.returns-clause-writes
returns-clause-writes g c =
    inserts_write kept_total2 c.args.row.now (state g.S.Store c.args.tx.now.conn.now) (state g.S.Store c.insert.new.tx.conn.now) c.insert.result c.insert.ensures.inserts
