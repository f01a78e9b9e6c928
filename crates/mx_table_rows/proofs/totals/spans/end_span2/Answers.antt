use Rattle.std.proofs.Common.{pos, refl, Some}
use Rattle.sqlite.specs.declared.types.Value.TheVariants.{Int}
use Rattle.sqlite.specs.Held.{state}
use Rattle.mx_layout.specs.kept.Cells.{kept_span2}
use Rattle.mx_table_rows.specs.chosen.Choices.{has_value, is_open}
use Rattle.mx_table_rows.specs.totals.Calls.{change_where}
use Rattle.mx_table_rows.specs.totals.Single.{IsOnly, HasOne}
use Rattle.mx_table_rows.specs.totals.Spans.{ended}
use Rattle.mx_table_rows.proofs.TotalsProofs.ChangeLemmas.{read_then_replaced, stops_changing, opens_then, opens_stopped}
use Rattle.mx_table_rows.proofs.TotalsProofs.SpanLemmas.{left_same}
use Rattle.mx_table_rows.proofs.totals.spans.end_span2.Goals as goal

pub returns-clause-changes : goal.returns-clause-changes
returns-clause-changes g c =
    let test = is_open 1 (Int (pos c.args.component)) in
    let span = c.in_ok-span.span in
    let old = state g.S.Store c.args.tx.now.conn.now in
    read_then_replaced kept_span2 test (has_value 0 (Int (pos span.fit_seq))) (ended c.args.remove_seq c.args.to) span (record span { remove_seq = Some c.args.remove_seq; to = Some c.args.to })
    old (state g.S.Store c.open_span.new.tx.conn.now) (state g.S.Store c.set_span2.new.tx.conn.now) c.set_span2.result
    c.in_ok-span.ensures.reads c.set_span2.ensures.replaces refl (λ rises only. left_same c.args.component old.now.trees span rises only)

pub returns-clause-opens : goal.returns-clause-opens
returns-clause-opens g c =
    let test = is_open 1 (Int (pos c.args.component)) in
    opens_then kept_span2 (IsOnly kept_span2 test) (λ rows. ¬ HasOne kept_span2 test rows) (state g.S.Store c.args.tx.now.conn.now) (state g.S.Store c.open_span.new.tx.conn.now) (state g.S.Store c.set_span2.new.tx.conn.now) c.in_ok-span.span c.set_span2.result
    c.in_ok-span.ensures.reads c.set_span2.ensures.replaces.within c.set_span2.ensures.replaces.cause

pub returns-in_err-span-clause-changes : goal.returns-in_err-span-clause-changes
returns-in_err-span-clause-changes g c =
    let test = is_open 1 (Int (pos c.args.component)) in
    stops_changing kept_span2 (change_where test (ended c.args.remove_seq c.args.to)) (IsOnly kept_span2 test) (HasOne kept_span2 test) (λ rows. ¬ HasOne kept_span2 test rows)
    (state g.S.Store c.args.tx.now.conn.now) (state g.S.Store c.open_span.new.tx.conn.now) c.in_err-span.field-0.0 c.from_residual.result c.from_residual.ensures.1 c.in_err-span.ensures.reads

pub returns-in_err-span-clause-opens : goal.returns-in_err-span-clause-opens
returns-in_err-span-clause-opens g c =
    let test = is_open 1 (Int (pos c.args.component)) in
    opens_stopped kept_span2 (IsOnly kept_span2 test) (λ rows. ¬ HasOne kept_span2 test rows)
    (state g.S.Store c.args.tx.now.conn.now) (state g.S.Store c.open_span.new.tx.conn.now) c.in_err-span.field-0.0 c.from_residual.result c.from_residual.ensures.1 c.in_err-span.ensures.reads
