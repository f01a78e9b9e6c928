use Rattle.std.proofs.Common.{None, List, subst}
use Rattle.sqlite.specs.Held.{state}
use Rattle.mx_base.specs.declared.rows.rows.DoneRow.{DoneRow}
use Rattle.mx_book.specs.due.Moved.{moved}
use Rattle.mx_layout.specs.kept.Cells.{kept_done3}
use Rattle.mx_table_rows.specs.totals.Bases.{is_of_task}
use Rattle.mx_table_rows.specs.totals.Puts.{WritesRows, rows_instead}
use Rattle.mx_table_rows.specs.totals.Remade.{AreRemade, CanRemake, CantRemake, IsRemade}
use Rattle.mx_table_rows.proofs.TotalsProofs.ChangeLemmas.{stops_before}
use Rattle.mx_table_rows.proofs.TotalsProofs.RemadeLemmas.{remade_written}
use Rattle.mx_table_rows.proofs.totals.rebase.rebase.Goals as goal

pub returns-clause-changes : goal.returns-clause-changes
returns-clause-changes g c =
    let test = is_of_task c.args.item c.args.task.now in
    let mid = state g.S.Store c.done_moved.new.tx.conn.now in
    let new = state g.S.Store c.set_done_rows.new.tx.conn.now in
    let result = c.set_done_rows.result in
    remade_written kept_done3 test (moved None None) (λ made. made.items) c.in_ok-made.made (state g.S.Store c.args.tx.now.conn.now) mid new result c.in_ok-made.ensures.reads
    (subst (λ (rows : List DoneRow). WritesRows kept_done3 (rows_instead kept_done3 test rows) mid new result) c.deref.ensures.value c.set_done_rows.ensures.replaces)

pub returns-in_err-made-clause-changes : goal.returns-in_err-made-clause-changes
returns-in_err-made-clause-changes g c =
    let test = is_of_task c.args.item c.args.task.now in
    stops_before kept_done3 (IsRemade kept_done3 test (moved None None)) (λ rows made. AreRemade kept_done3 test (moved None None) rows made.items) (CanRemake kept_done3 test (moved None None)) (CantRemake kept_done3 test (moved None None))
    (state g.S.Store c.args.tx.now.conn.now) (state g.S.Store c.done_moved.new.tx.conn.now) c.in_err-made.field-0.0 c.from_residual.result c.from_residual.ensures.1 c.in_err-made.ensures.reads
