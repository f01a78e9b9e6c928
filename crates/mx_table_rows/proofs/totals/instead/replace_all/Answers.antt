use Rattle.sqlite.specs.Held.{state}
use Rattle.mx_table_rows.proofs.TotalsProofs.WriteLemmas.{instead_then, instead_stops}
use Rattle.mx_table_rows.proofs.totals.instead.replace_all.Goals as goal

pub returns-clause-replaces : goal.returns-clause-replaces
returns-clause-replaces g c chosen given deletes same =
    instead_then g.R.Stored.kept (chosen given) c.args.rows.now (state g.S.Store c.args.tx.now.conn.now) (state g.S.Store c.delete_rows.new.tx.conn.now) (state g.S.Store c.add_rows.new.tx.conn.now) _ c.add_rows.result
    (c.in_ok-delete_rows.ensures.deletes chosen given deletes same) c.add_rows.ensures.adds

pub returns-in_err-delete_rows-clause-replaces : goal.returns-in_err-delete_rows-clause-replaces
returns-in_err-delete_rows-clause-replaces g c chosen given deletes same =
    instead_stops g.R.Stored.kept (chosen given) c.args.rows.now (state g.S.Store c.args.tx.now.conn.now) (state g.S.Store c.delete_rows.new.tx.conn.now) c.in_err-delete_rows.field-0.0 c.from_residual.result c.from_residual.ensures.1
    (c.in_err-delete_rows.ensures.deletes chosen given deletes same)
