use Rattle.std.proofs.Common.{List, subst}
use Rattle.sqlite.specs.Held.{state}
use Rattle.mx_base.specs.declared.rows.rows.Deferral3Row.{Deferral3Row}
use Rattle.mx_layout.specs.kept.Cells.{kept_defect3}
use Rattle.mx_table_rows.specs.totals.Calls.{change_where}
use Rattle.mx_table_rows.specs.totals.Puts.{PutsRows}
use Rattle.mx_table_rows.specs.totals.Found.{is_found_from, is_own_defect, found_later, AllCanShift, OneCantShift, AreShifted}
use Rattle.mx_table_rows.proofs.TotalsProofs.ChangeLemmas.{stops_changing}
use Rattle.mx_table_rows.proofs.TotalsProofs.FoundLemmas.{all_can}
use Rattle.mx_table_rows.proofs.TotalsProofs.PutLemmas.{read_then_put}
use Rattle.mx_table_rows.proofs.TotalsProofs.ShiftLemmas.{shifted_put}
use Rattle.mx_table_rows.proofs.totals.found.shift_found.Goals as goal

pub returns-clause-changes : goal.returns-clause-changes
returns-clause-changes g c =
    let aircraft = c.args.aircraft in
    let cycles = c.args.cycles in
    let landed = c.args.landed in
    let old = state g.S.Store c.args.tx.now.conn.now in
    let mid = state g.S.Store c.shifted.new.tx.conn.now in
    let new = state g.S.Store c.put_rows.new.tx.conn.now in
    let rows = c.in_ok-rows.rows in
    read_then_put kept_defect3 is_own_defect (λ stored shifted. AreShifted aircraft cycles landed stored shifted.items) (λ shifted. shifted.items)
    (change_where (is_found_from aircraft landed) (found_later cycles)) (AllCanShift aircraft cycles landed) (OneCantShift aircraft cycles landed) rows old mid new c.put_rows.result
    c.in_ok-rows.ensures.reads (subst (λ (xs : List Deferral3Row). PutsRows kept_defect3 is_own_defect xs mid new c.put_rows.result) c.deref.ensures.value c.put_rows.ensures.puts)
    (λ rises are. shifted_put aircraft cycles landed old.now.trees rises rows.items are) (all_can aircraft cycles landed _ rows.items)

pub returns-in_err-rows-clause-changes : goal.returns-in_err-rows-clause-changes
returns-in_err-rows-clause-changes g c =
    let aircraft = c.args.aircraft in
    let cycles = c.args.cycles in
    let landed = c.args.landed in
    stops_changing kept_defect3 (change_where (is_found_from aircraft landed) (found_later cycles)) (λ stored shifted. AreShifted aircraft cycles landed stored shifted.items) (AllCanShift aircraft cycles landed) (OneCantShift aircraft cycles landed)
    (state g.S.Store c.args.tx.now.conn.now) (state g.S.Store c.shifted.new.tx.conn.now) c.in_err-rows.field-0.0 c.from_residual.result c.from_residual.ensures.1 c.in_err-rows.ensures.reads
