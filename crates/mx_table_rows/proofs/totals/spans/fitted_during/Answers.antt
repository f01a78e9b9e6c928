use Rattle.std.proofs.Common.{List, pos, map, filter, ap, ◌∙◌}
use Rattle.sqlite.specs.declared.types.Value.TheVariants.{Int}
use Rattle.sqlite.specs.Held.{state}
use Rattle.mx_base.specs.declared.rows.rows.SpanRow.{SpanRow}
use Rattle.mx_layout.specs.kept.Cells.{kept_span2}
use Rattle.mx_table_rows.specs.chosen.Choices.{has_value}
use Rattle.mx_table_rows.specs.totals.Spans.{was_fitted, component_of, AreDuring, HasOtherSpan}
use Rattle.mx_table_rows.proofs.TotalsProofs.ReadLemmas.{reads_of, unread_of}
use Rattle.mx_table_rows.proofs.totals.spans.fitted_during.Goals as goal

pub returns-clause-reads : goal.returns-clause-reads
returns-clause-reads g c =
    let aircraft = c.args.aircraft in
    let off = c.args.off in
    let on = c.args.on in
    let spans = c.in_ok-spans.spans in
    reads_of kept_span2 (has_value 2 (Int (pos aircraft))) (λ rows components. AreDuring aircraft off on rows components.items) (HasOtherSpan aircraft) (state g.S.Store c.args.tx.now.conn.now) (state g.S.Store c.span2_by_aircraft.new.tx.conn.now) spans c.in_ok-during.field-0
    (λ _ exactly. record { spans = spans.items; exactly = exactly; during = c.in_ok-during.ensures ∙ ap (λ (l : List SpanRow). map component_of (filter (was_fitted off on) l)) c.deref.ensures.value }) c.in_ok-spans.ensures.reads

pub returns-in_err-spans-clause-reads : goal.returns-in_err-spans-clause-reads
returns-in_err-spans-clause-reads g c =
    let aircraft = c.args.aircraft in
    unread_of kept_span2 (has_value 2 (Int (pos aircraft))) (λ rows components. AreDuring aircraft c.args.off c.args.on rows components.items) (HasOtherSpan aircraft) (state g.S.Store c.args.tx.now.conn.now) (state g.S.Store c.span2_by_aircraft.new.tx.conn.now)
    c.in_err-spans.field-0.0 c.from_residual.result c.from_residual.ensures.1 (λ _ bad. bad) c.in_err-spans.ensures.reads
