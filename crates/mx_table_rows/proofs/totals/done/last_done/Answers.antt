use Rattle.std.proofs.Common.{rules, Some}
use Rattle.sqlite.specs.Held.{state}
use Rattle.mx_layout.specs.kept.Cells.{kept_done3}
use Rattle.mx_table_rows.specs.totals.Bases.{is_of_task}
use Rattle.mx_table_rows.specs.totals.Done.{IsLastDone, HasOtherDone}
use Rattle.mx_table_rows.proofs.TotalsProofs.ReadLemmas.{reads_of, unread_of}
use Rattle.mx_table_rows.proofs.totals.done.last_done.Goals as goal

pub returns-in-Some-clause-reads : goal.returns-in-Some-clause-reads
returns-in-Some-clause-reads g c =
    let item = c.args.item in
    let task = c.args.task.now in
    let rows = c.in_ok-rows.rows in
    reads_of kept_done3 (is_of_task item task) (IsLastDone item task) (HasOtherDone item task) (state g.S.Store c.args.tx.now.conn.now) (state g.S.Store c.done3_by_item_and_task.new.tx.conn.now) rows (Some c.in-Some.row.now)
    (λ _ exactly. record { done = rows.items; exactly = exactly; is = (search rules) }) c.in_ok-rows.ensures.reads

pub returns-in_err-rows-clause-reads : goal.returns-in_err-rows-clause-reads
returns-in_err-rows-clause-reads g c =
    let item = c.args.item in
    let task = c.args.task.now in
    unread_of kept_done3 (is_of_task item task) (IsLastDone item task) (HasOtherDone item task) (state g.S.Store c.args.tx.now.conn.now) (state g.S.Store c.done3_by_item_and_task.new.tx.conn.now)
    c.in_err-rows.field-0.0 c.from_residual.result c.from_residual.ensures.1 (λ _ bad. bad) c.in_err-rows.ensures.reads
