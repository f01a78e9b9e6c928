use Rattle.std.proofs.Common.{rules}
use Rattle.sqlite.specs.Held.{state}
use Rattle.mx_table_rows.proofs.TotalsProofs.FoundLemmas.{found_read, found_unread}
use Rattle.mx_table_rows.proofs.totals.found.shifted.Goals as goal

pub returns-clause-reads : goal.returns-clause-reads
returns-clause-reads g c =
    found_read c.args.aircraft c.args.cycles c.args.landed (state g.S.Store c.args.tx.now.conn.now) (state g.S.Store c.defect3_by_aircraft.new.tx.conn.now) c.in_ok-rows.rows c.rows_with.result
    (search rules) (search rules) c.in_ok-rows.ensures.reads

pub returns-in_err-rows-clause-reads : goal.returns-in_err-rows-clause-reads
returns-in_err-rows-clause-reads g c =
    found_unread c.args.aircraft c.args.cycles c.args.landed (state g.S.Store c.args.tx.now.conn.now) (state g.S.Store c.defect3_by_aircraft.new.tx.conn.now) c.in_err-rows.field-0.0 c.from_residual.result c.from_residual.ensures.1 c.in_err-rows.ensures.reads
