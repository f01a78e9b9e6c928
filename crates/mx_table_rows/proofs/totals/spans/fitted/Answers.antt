use Rattle.std.proofs.Common.{pos, map, ap, ◌∙◌}
use Rattle.sqlite.specs.declared.types.Value.TheVariants.{Int}
use Rattle.sqlite.specs.Held.{state}
use Rattle.mx_layout.specs.kept.Cells.{kept_span2}
use Rattle.mx_table_rows.specs.chosen.Choices.{is_open}
use Rattle.mx_table_rows.specs.totals.Spans.{fitted_by, AreFitted, HasOtherFitted}
use Rattle.mx_table_rows.proofs.TotalsProofs.ReadLemmas.{reads_of, unread_of}
use Rattle.mx_table_rows.proofs.totals.spans.fitted.Goals as goal

pub returns-clause-reads : goal.returns-clause-reads
returns-clause-reads g c =
    let aircraft = c.args.aircraft in
    let spans = c.in_ok-spans.spans in
    reads_of kept_span2 (is_open 2 (Int (pos aircraft))) (λ rows components. AreFitted aircraft rows components.items) (HasOtherFitted aircraft) (state g.S.Store c.args.tx.now.conn.now) (state g.S.Store c.open_spans_by_aircraft.new.tx.conn.now) spans c.in_ok-fitted_by.field-0
    (λ _ exactly. record { spans = spans.items; exactly = exactly; fitted = c.in_ok-fitted_by.ensures ∙ ap (map fitted_by) c.deref.ensures.value }) c.in_ok-spans.ensures.reads

pub returns-in_err-spans-clause-reads : goal.returns-in_err-spans-clause-reads
returns-in_err-spans-clause-reads g c =
    let aircraft = c.args.aircraft in
    unread_of kept_span2 (is_open 2 (Int (pos aircraft))) (λ rows components. AreFitted aircraft rows components.items) (HasOtherFitted aircraft) (state g.S.Store c.args.tx.now.conn.now) (state g.S.Store c.open_spans_by_aircraft.new.tx.conn.now)
    c.in_err-spans.field-0.0 c.from_residual.result c.from_residual.ensures.1 (λ _ bad. bad) c.in_err-spans.ensures.reads
