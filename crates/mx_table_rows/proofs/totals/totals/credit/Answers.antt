use Rattle.std.proofs.Common.{List, subst}
use Rattle.sqlite.specs.Held.{state}
use Rattle.mx_base.specs.declared.rows.rows.TotalRow.{TotalRow}
use Rattle.mx_layout.specs.kept.Cells.{kept_total2}
use Rattle.mx_table_rows.specs.totals.Totals.{is_own_total}
use Rattle.mx_table_rows.specs.totals.Puts.{PutsRows}
use Rattle.mx_table_rows.proofs.TotalsProofs.CreditLemmas.{no_two}
use Rattle.mx_table_rows.proofs.TotalsProofs.StepLemmas.{read_then_put, totals_unread}
use Rattle.mx_table_rows.proofs.totals.totals.credit.Goals as goal

pub returns-clause-changes : goal.returns-clause-changes
returns-clause-changes g c =
    let old = state g.S.Store c.args.tx.now.conn.now in
    let mid = state g.S.Store c.rows_with.new.tx.conn.now in
    let new = state g.S.Store c.put_rows.new.tx.conn.now in
    read_then_put c.args.added c.args.items.now (λ rows. rows.items) c.in_ok-rows.rows old mid new c.put_rows.result (no_two c.args.items.now c.requires) c.in_ok-rows.ensures.reads
    (subst (λ (xs : List TotalRow). PutsRows kept_total2 is_own_total xs mid new c.put_rows.result) c.deref.ensures.value c.put_rows.ensures.puts)

pub returns-in_err-rows-clause-changes : goal.returns-in_err-rows-clause-changes
returns-in_err-rows-clause-changes g c =
    totals_unread c.args.added c.args.items.now (λ rows. rows.items) (state g.S.Store c.args.tx.now.conn.now) (state g.S.Store c.rows_with.new.tx.conn.now) c.in_err-rows.field-0.0 c.from_residual.result c.from_residual.ensures.1 c.in_err-rows.ensures.reads
