use Rattle.std.proofs.Common.{sym, subst}
use Rattle.sqlite.specs.Held.{state}
use Rattle.mx_layout.specs.kept.Cells.{kept_base2}
use Rattle.mx_table_rows.specs.totals.Calls.{ReadsFrom}
use Rattle.mx_table_rows.specs.totals.Single.{IsOneOrNone, HasOneOrNone}
use Rattle.mx_table_rows.specs.totals.Bases.{is_of_task}
use Rattle.mx_table_rows.proofs.TotalsProofs.ReadLemmas.{reads_one_or_none}
use Rattle.mx_table_rows.proofs.totals.bases.base_row.Goals as goal

pub returns-clause-reads : goal.returns-clause-reads
returns-clause-reads g c =
    let test = is_of_task c.args.item c.args.task.now in
    let old = state g.S.Store c.args.tx.now.conn.now in
    let new = state g.S.Store c.base2_by_item_and_task-read.new.tx.conn.now in
    subst (ReadsFrom kept_base2 (IsOneOrNone kept_base2 test) (λ rows. ¬ HasOneOrNone kept_base2 test rows) old new) (sym c.one_or_none.ensures)
    (reads_one_or_none kept_base2 test old new c.base2_by_item_and_task-read.result c.base2_by_item_and_task-read.ensures.reads)
