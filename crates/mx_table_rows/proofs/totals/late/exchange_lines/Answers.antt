use Rattle.sqlite.specs.Held.{state}
use Rattle.mx_table_rows.proofs.TotalsProofs.LateLoops.{lines_then}
use Rattle.mx_table_rows.proofs.totals.late.exchange_lines.Goals as goal

pub returns-clause-writes : goal.returns-clause-writes
returns-clause-writes g c =
    lines_then c.args.rows.now (state g.S.Store c.args.tx.now.conn.now) (state g.S.Store c.delete_lines.new.tx.conn.now) (state g.S.Store c.add_rows.new.tx.conn.now) _ c.add_rows.result c.in_ok-delete_lines.ensures.writes c.add_rows.ensures.adds
