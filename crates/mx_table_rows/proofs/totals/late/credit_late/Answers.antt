use Rattle.std.proofs.Common.{List, Ok, Err, subst}
use Rattle.sqlite.specs.Held.{state}
use Rattle.mx_base.specs.declared.rows.rows.DoneRow.{DoneRow}
use Rattle.mx_base.specs.declared.rows.rows.TotalRow.{TotalRow}
use Rattle.mx_layout.specs.Contents.{rows_in}
use Rattle.mx_layout.specs.Tables.{total2}
use Rattle.mx_layout.specs.kept.Cells.{kept_total2, kept_done3}
use Rattle.mx_table_rows.specs.totals.Puts.{WritesRows, PutsRows, rows_instead}
use Rattle.mx_table_rows.specs.totals.Totals.{is_own_total, totals_put, AreCredited}
use Rattle.mx_table_rows.specs.totals.LateSteps.{is_any_line}
use Rattle.mx_table_rows.proofs.TotalsProofs.CreditLemmas.{no_two}
use Rattle.mx_table_rows.proofs.TotalsProofs.LateCalls.{AreBoth, both_read, all_written, totals_unread_late, late_unread}
use Rattle.mx_table_rows.proofs.TotalsProofs.LateWrites.{both_then, both_stopped}
use Rattle.mx_table_rows.proofs.totals.late.credit_late.Goals as goal

pub returns-clause-credits : goal.returns-clause-credits
returns-clause-credits g c =
    let items = c.args.items.now in
    let distinct = no_two items c.requires in
    let totals = c.in_ok-credited.credited in
    let late = c.in_ok-late.late in
    let a = state g.S.Store c.args.tx.now.conn.now in
    let b = state g.S.Store c.rows_with.new.tx.conn.now in
    let d = state g.S.Store c.late_rows.new.tx.conn.now in
    let e = state g.S.Store c.put_rows.new.tx.conn.now in
    let new = state g.S.Store c.exchange_lines.new.tx.conn.now in
    all_written items distinct c.args.added c.args.landed (λ rows. rows.items) (λ rows. rows.items) totals late a d new c.exchange_lines.result
    (both_read items distinct c.args.added c.args.landed (λ rows. rows.items) (λ rows. rows.items) totals a b d (Ok late) c.in_ok-credited.ensures.reads c.in_ok-late.ensures.reads)
    (both_then (totals_put totals.items) (rows_instead kept_done3 (is_any_line late.items) late.items) d e new _ c.exchange_lines.result
    (subst (λ (xs : List TotalRow). PutsRows kept_total2 is_own_total xs d e (Ok _)) c.deref.ensures.value c.in_ok-put_rows.ensures.puts)
    (subst (λ (xs : List DoneRow). WritesRows kept_done3 (rows_instead kept_done3 (is_any_line xs) xs) e new c.exchange_lines.result) c.deref-2.ensures.value c.exchange_lines.ensures.writes))

pub returns-in_err-credited-clause-credits : goal.returns-in_err-credited-clause-credits
returns-in_err-credited-clause-credits g c =
    let a = state g.S.Store c.args.tx.now.conn.now in
    let b = state g.S.Store c.rows_with.new.tx.conn.now in
    late_unread c.args.items.now c.args.added c.args.landed (λ trees rows. AreCredited c.args.added (rows_in total2 trees) c.args.items.now rows.items) a b c.in_err-credited.field-0.0 c.from_residual.result c.from_residual.ensures.1
    (totals_unread_late c.args.added c.args.items.now c.args.landed (λ rows. rows.items) a b c.in_err-credited.field-0.0 c.in_err-credited.ensures.reads)

pub returns-in_err-late-clause-credits : goal.returns-in_err-late-clause-credits
returns-in_err-late-clause-credits g c =
    let items = c.args.items.now in
    let distinct = no_two items c.requires in
    let totals = c.in_ok-credited.credited in
    let a = state g.S.Store c.args.tx.now.conn.now in
    let b = state g.S.Store c.rows_with.new.tx.conn.now in
    let d = state g.S.Store c.late_rows.new.tx.conn.now in
    late_unread items c.args.added c.args.landed (AreBoth items distinct c.args.added c.args.landed (λ rows. rows.items) (λ rows. rows.items) totals) a d c.in_err-late.field-0.0 c.from_residual-in_err-late.result c.from_residual-in_err-late.ensures.1
    (both_read items distinct c.args.added c.args.landed (λ rows. rows.items) (λ rows. rows.items) totals a b d (Err c.in_err-late.field-0.0) c.in_ok-credited.ensures.reads c.in_err-late.ensures.reads)

pub returns-in_err-put_rows-clause-credits : goal.returns-in_err-put_rows-clause-credits
returns-in_err-put_rows-clause-credits g c =
    let items = c.args.items.now in
    let distinct = no_two items c.requires in
    let totals = c.in_ok-credited.credited in
    let late = c.in_ok-late.late in
    let a = state g.S.Store c.args.tx.now.conn.now in
    let b = state g.S.Store c.rows_with.new.tx.conn.now in
    let d = state g.S.Store c.late_rows.new.tx.conn.now in
    let e = state g.S.Store c.put_rows.new.tx.conn.now in
    let fault = c.in_err-put_rows.field-0.0 in
    all_written items distinct c.args.added c.args.landed (λ rows. rows.items) (λ rows. rows.items) totals late a d e c.from_residual-in_err-put_rows.result
    (both_read items distinct c.args.added c.args.landed (λ rows. rows.items) (λ rows. rows.items) totals a b d (Ok late) c.in_ok-credited.ensures.reads c.in_ok-late.ensures.reads)
    (both_stopped (totals_put totals.items) (rows_instead kept_done3 (is_any_line late.items) late.items) d e fault c.from_residual-in_err-put_rows.result c.from_residual-in_err-put_rows.ensures.1
    (subst (λ (xs : List TotalRow). PutsRows kept_total2 is_own_total xs d e (Err fault)) c.deref.ensures.value c.in_err-put_rows.ensures.puts))
