use Rattle.std.proofs.Common.{sym, subst}
use Rattle.sqlite.specs.Held.{state}
use Rattle.mx_layout.specs.kept.Cells.{kept_total2}
use Rattle.mx_table_rows.specs.totals.Calls.{ReadsFrom}
use Rattle.mx_table_rows.specs.totals.Single.{IsOnly, HasOne}
use Rattle.mx_table_rows.specs.totals.Totals.{is_of_item}
use Rattle.mx_table_rows.proofs.TotalsProofs.ReadLemmas.{reads_only}
use Rattle.mx_table_rows.proofs.totals.totals.row_of.Goals as goal

pub returns-clause-reads : goal.returns-clause-reads
returns-clause-reads g c =
    let test = is_of_item c.args.item in
    let old = state g.S.Store c.args.tx.now.conn.now in
    let new = state g.S.Store c.total2_by_item-read.new.tx.conn.now in
    subst (ReadsFrom kept_total2 (IsOnly kept_total2 test) (λ rows. ¬ HasOne kept_total2 test rows) old new) (sym c.only.ensures)
    (reads_only kept_total2 test old new c.total2_by_item-read.result c.total2_by_item-read.ensures.reads)
