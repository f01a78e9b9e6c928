use Rattle.std.proofs.Common.{[], sym, ap, subst, ◌∙◌}
use Rattle.std.specs.Option.{ok_or}
use Rattle.sqlite.specs.Held.{state}
use Rattle.mx_layout.specs.declared.fault.TableFault.TheVariants.{Damaged}
use Rattle.mx_table_rows.specs.chosen.Counts.{CountsRows}
use Rattle.mx_table_rows.proofs.ChosenProofs.CountLemmas.{row_within, counts_told, counts_stopped}
use Rattle.mx_table_rows.proofs.chosen.counts.count_rows.Goals as goal

pub returns-in-Ok-clause-counts : goal.returns-in-Ok-clause-counts
returns-in-Ok-clause-counts g c counts =
    let k = g.R.Stored.kept in
    let old = state g.S.Store c.args.tx.now.conn.now in
    let new = state g.S.Store c.query_row.new.self.conn.now in
    let text = c.args.sql.now in
    let told = counts_told k old new (row_within old new text [] c.query_row.result c.query_row.ensures.survives c.query_row.ensures.row) text counts c.in-Ok.row c.in-Ok.ensures.row c.first_number.result c.first_number.ensures in
    subst (CountsRows k old new) (sym (c.ok_or.ensures.value ∙ ap (λ table. ok_or c.first_number.result (Damaged table)) c.texts.ensures.table)) told

pub returns-in-Err-clause-counts : goal.returns-in-Err-clause-counts
returns-in-Err-clause-counts g c counts =
    let old = state g.S.Store c.args.tx.now.conn.now in
    let new = state g.S.Store c.query_row.new.self.conn.now in
    counts_stopped g.R.Stored.kept old new (row_within old new c.args.sql.now [] c.query_row.result c.query_row.ensures.survives c.query_row.ensures.row) c.fault_of.result c.fault_of.ensures.stop
