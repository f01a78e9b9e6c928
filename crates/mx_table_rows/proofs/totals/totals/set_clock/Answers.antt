use Rattle.std.proofs.Common.{ap, filter, not, refl}
use Rattle.sqlite.specs.Held.{state}
use Rattle.mx_layout.specs.Contents.{rows_in}
use Rattle.mx_layout.specs.Tables.{total2}
use Rattle.mx_layout.specs.kept.Cells.{kept_total2}
use Rattle.mx_table_rows.specs.totals.Calls.{change_where}
use Rattle.mx_table_rows.specs.totals.Single.{IsOnly, HasOne}
use Rattle.mx_table_rows.specs.totals.Totals.{is_of_item, clocked}
use Rattle.mx_table_rows.proofs.TotalsProofs.ChangeLemmas.{read_then_replaced, stops_changing, opens_then, opens_stopped}
use Rattle.mx_table_rows.proofs.TotalsProofs.CreditLemmas.{item_is}
use Rattle.mx_table_rows.proofs.totals.totals.set_clock.Goals as goal

pub returns-clause-changes : goal.returns-clause-changes
returns-clause-changes g c =
    let test = is_of_item c.args.item in
    let row = c.in_ok-row.row in
    let old = state g.S.Store c.args.tx.now.conn.now in
    read_then_replaced kept_total2 test (is_of_item row.item) (clocked c.args.clock) row (record row { clock = c.args.clock }) old (state g.S.Store c.row_of.new.tx.conn.now) (state g.S.Store c.set_total.new.tx.conn.now) c.set_total.result
    c.in_ok-row.ensures.reads c.set_total.ensures.replaces refl
    (λ rises only. ap (λ n. filter (λ r. not (is_of_item n r)) (rows_in total2 old.now.trees)) (item_is c.args.item (rows_in total2 old.now.trees) row only))

pub returns-clause-opens : goal.returns-clause-opens
returns-clause-opens g c =
    opens_then kept_total2 (IsOnly kept_total2 (is_of_item c.args.item)) (λ rows. ¬ HasOne kept_total2 (is_of_item c.args.item) rows) (state g.S.Store c.args.tx.now.conn.now) (state g.S.Store c.row_of.new.tx.conn.now) (state g.S.Store c.set_total.new.tx.conn.now) c.in_ok-row.row c.set_total.result
    c.in_ok-row.ensures.reads c.set_total.ensures.replaces.within c.set_total.ensures.replaces.cause

pub returns-in_err-row-clause-changes : goal.returns-in_err-row-clause-changes
returns-in_err-row-clause-changes g c =
    let test = is_of_item c.args.item in
    stops_changing kept_total2 (change_where test (clocked c.args.clock)) (IsOnly kept_total2 test) (HasOne kept_total2 test) (λ rows. ¬ HasOne kept_total2 test rows)
    (state g.S.Store c.args.tx.now.conn.now) (state g.S.Store c.row_of.new.tx.conn.now) c.in_err-row.field-0.0 c.from_residual.result c.from_residual.ensures.1 c.in_err-row.ensures.reads

pub returns-in_err-row-clause-opens : goal.returns-in_err-row-clause-opens
returns-in_err-row-clause-opens g c =
    let test = is_of_item c.args.item in
    opens_stopped kept_total2 (IsOnly kept_total2 test) (λ rows. ¬ HasOne kept_total2 test rows)
    (state g.S.Store c.args.tx.now.conn.now) (state g.S.Store c.row_of.new.tx.conn.now) c.in_err-row.field-0.0 c.from_residual.result c.from_residual.ensures.1 c.in_err-row.ensures.reads
