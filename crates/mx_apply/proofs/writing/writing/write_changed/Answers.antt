use Rattle.std.proofs.Common.{List, Ok}
use Rattle.sqlite.specs.Order.{Row}
use Rattle.sqlite.specs.Held.{state}
use Rattle.mx_layout.specs.TableName.{TableName}
use Rattle.mx_layout.specs.kept.Cells.{kept_span2, kept_total2, kept_base2}
use Rattle.mx_apply.specs.writing.Changes.{all_in_place}
use Rattle.mx_apply.specs.writing.Written.{IsSettled, is_same_base, is_same_span, is_same_total}
use Rattle.mx_apply.proofs.WritingProofs.RowLemmas.{all_in_place_keeps, placed, rows_then, stop_after}
use Rattle.mx_apply.proofs.WritingProofs.ThereLemmas.{bases_in, spans_in, totals_in}
use Rattle.mx_apply.proofs.writing.writing.write_changed.Goals as goal

pub returns-clause-writes : goal.returns-clause-writes
returns-clause-writes g c =
    let rows = c.args.rows.now in
    let s0 = state g.S.Store c.args.tx.now.conn.now in
    let s1 = state g.S.Store c.replace_all.new.tx.conn.now in
    let s2 = state g.S.Store c.replace_all-2.new.tx.conn.now in
    let s3 = state g.S.Store c.replace_all-3.new.tx.conn.now in
    let spans = all_in_place kept_span2 is_same_span rows.spans.items in
    let totals = all_in_place kept_total2 is_same_total rows.totals.items in
    let bases = all_in_place kept_base2 is_same_base rows.bases.items in
    let one = placed kept_span2 is_same_span IsSettled spans_in c.deref.ensures.value c.in_ok-replace_all.ensures.writes in
    let two = placed kept_total2 is_same_total IsSettled totals_in c.deref-2.ensures.value c.in_ok-replace_all-2.ensures.writes in
    let both = rows_then IsSettled spans totals (all_in_place_keeps kept_total2 is_same_total rows.totals.items) s0 s1 s2 _ (Ok _) one two in
    rows_then IsSettled (λ (name : TableName) (xs : List Row). totals name (spans name xs)) bases (all_in_place_keeps kept_base2 is_same_base rows.bases.items) s0 s2 s3 _ c.replace_all-3.result both
    (placed kept_base2 is_same_base IsSettled bases_in c.deref-3.ensures.value c.replace_all-3.ensures.writes)

pub returns-in_err-replace_all-2-clause-writes : goal.returns-in_err-replace_all-2-clause-writes
returns-in_err-replace_all-2-clause-writes g c =
    stop_after IsSettled _ c.from_residual-in_err-replace_all-2.result c.from_residual-in_err-replace_all-2.ensures.0
    (placed kept_span2 is_same_span IsSettled spans_in c.deref.ensures.value c.in_ok-replace_all.ensures.writes)
    (placed kept_total2 is_same_total IsSettled totals_in c.deref-2.ensures.value c.replace_all-2.ensures.writes)
