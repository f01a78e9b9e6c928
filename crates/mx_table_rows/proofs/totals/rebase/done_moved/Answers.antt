use Rattle.std.proofs.Common.{◌≡◌, ◌⊎◌, inl, None, All, List, IfOk, IfErr, subst}
use Rattle.sqlite.specs.Held.{state}
use Rattle.mx_base.specs.declared.rows.rows.DoneRow.{DoneRow}
use Rattle.mx_book.specs.due.Moved.{moved}
use Rattle.mx_layout.specs.declared.fault.TableFault.TheVariants.{Memory, Damaged}
use Rattle.mx_layout.specs.declared.fault.Table.TheVariants.{Done3}
use Rattle.mx_layout.specs.kept.Cells.{kept_done3}
use Rattle.mx_table_rows.specs.totals.Bases.{is_of_task}
use Rattle.mx_table_rows.specs.totals.Remade.{AreRemade, CantRemake}
use Rattle.mx_table_rows.proofs.TotalsProofs.ReadLemmas.{unread_of}
use Rattle.mx_table_rows.proofs.TotalsProofs.RemadeLemmas.{remade_read}
use Rattle.mx_table_rows.proofs.totals.rebase.done_moved.Goals as goal

pub returns-clause-reads : goal.returns-clause-reads
returns-clause-reads g c =
    let answer = c.rows_moved.result in
    let read = c.deref.ensures.value in
    remade_read kept_done3 (is_of_task c.args.item c.args.task.now) (moved None None) (λ made. made.items) c.in_ok-rows.rows answer (state g.S.Store c.args.tx.now.conn.now) (state g.S.Store c.done3_by_item_and_task.new.tx.conn.now)
    (subst (λ (rows : List DoneRow). IfOk answer (λ v. v.items ≡ moved None None rows)) read c.rows_moved.ensures.moved)
    (subst (λ (rows : List DoneRow). All kept_done3.Fits rows → IfOk answer (λ v. All kept_done3.Fits v.items)) read c.rows_moved.ensures.fits)
    (subst (λ (rows : List DoneRow). IfErr answer (λ e. (e ≡ Memory) ⊎ ((e ≡ Damaged Done3) × ¬ All kept_done3.Fits (moved None None rows)))) read c.rows_moved.ensures.stopped) c.in_ok-rows.ensures.reads

pub returns-in_err-rows-clause-reads : goal.returns-in_err-rows-clause-reads
returns-in_err-rows-clause-reads g c =
    let test = is_of_task c.args.item c.args.task.now in
    unread_of kept_done3 test (λ rows made. AreRemade kept_done3 test (moved None None) rows made.items) (CantRemake kept_done3 test (moved None None)) (state g.S.Store c.args.tx.now.conn.now) (state g.S.Store c.done3_by_item_and_task.new.tx.conn.now)
    c.in_err-rows.field-0.0 c.from_residual.result c.from_residual.ensures.1 (λ _ bad. inl bad) c.in_err-rows.ensures.reads
