use Rattle.sqlite.specs.Held.{state}
use Rattle.mx_table_rows.proofs.TotalsProofs.ReplaceLemmas.{replaces_then, stops_replacing}
use Rattle.mx_table_rows.proofs.totals.in_place.replace_rows.Goals as goal

pub returns-clause-replaces : goal.returns-clause-replaces
returns-clause-replaces g c chosen given deletes same =
    replaces_then g.R.Stored.kept (chosen given) c.args.row.now (state g.S.Store c.args.tx.now.conn.now) (state g.S.Store c.delete_rows.new.tx.conn.now) (state g.S.Store c.insert.new.tx.conn.now) _ c.insert.result
    (c.in_ok-delete_rows.ensures.deletes chosen given deletes same) c.insert.ensures.inserts

pub returns-in_err-delete_rows-clause-replaces : goal.returns-in_err-delete_rows-clause-replaces
returns-in_err-delete_rows-clause-replaces g c chosen given deletes same =
    let r = c.in_err-delete_rows.ensures.deletes chosen given deletes same in
    stops_replacing g.R.Stored.kept (chosen given) c.args.row.now (state g.S.Store c.args.tx.now.conn.now) (state g.S.Store c.delete_rows.new.tx.conn.now) c.in_err-delete_rows.field-0.0 c.from_residual.result c.from_residual.ensures.1 r.cause r.within
