use Rattle.std.proofs.Common.{pos, sym, subst}
use Rattle.sqlite.specs.declared.types.Value.TheVariants.{Int}
use Rattle.sqlite.specs.Held.{state}
use Rattle.mx_layout.specs.kept.Cells.{kept_span2}
use Rattle.mx_table_rows.specs.chosen.Choices.{is_open}
use Rattle.mx_table_rows.specs.totals.Calls.{ReadsFrom}
use Rattle.mx_table_rows.specs.totals.Single.{IsOnly, HasOne}
use Rattle.mx_table_rows.proofs.TotalsProofs.ReadLemmas.{reads_only}
use Rattle.mx_table_rows.proofs.totals.spans.open_span.Goals as goal

pub returns-clause-reads : goal.returns-clause-reads
returns-clause-reads g c =
    let test = is_open 1 (Int (pos c.args.component)) in
    let old = state g.S.Store c.args.tx.now.conn.now in
    let new = state g.S.Store c.open_spans_by_component-read.new.tx.conn.now in
    subst (ReadsFrom kept_span2 (IsOnly kept_span2 test) (λ rows. ¬ HasOne kept_span2 test rows) old new) (sym c.only.ensures)
    (reads_only kept_span2 test old new c.open_spans_by_component-read.result c.open_spans_by_component-read.ensures.reads)
