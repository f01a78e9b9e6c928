use Rattle.std.proofs.Common.{subst}
use Rattle.sqlite.specs.Held.{state}
use Rattle.mx_layout.specs.kept.Cells.{kept_total2}
use Rattle.mx_table_rows.specs.totals.Single.{IsOnly, HasOne}
use Rattle.mx_table_rows.specs.totals.Totals.{is_of_item, total_row}
use Rattle.mx_table_rows.proofs.TotalsProofs.ReadLemmas.{reads_as, stops_reading}
use Rattle.mx_table_rows.proofs.TotalsProofs.CreditLemmas.{item_is}
use Rattle.mx_table_rows.proofs.totals.totals.total.Goals as goal

pub returns-in_err-row-clause-reads : goal.returns-in_err-row-clause-reads
returns-in_err-row-clause-reads g c =
    let test = is_of_item c.args.item in
    stops_reading kept_total2 (IsOnly kept_total2 test) (λ rows total. IsOnly kept_total2 test rows (total_row c.args.item total)) (λ rows. ¬ HasOne kept_total2 test rows) (λ rows. ¬ HasOne kept_total2 test rows)
    (state g.S.Store c.args.tx.now.conn.now) (state g.S.Store c.row_of.new.tx.conn.now) c.in_err-row.field-0.0 c.from_residual.result c.from_residual.ensures.1 (λ rows none. none) c.in_err-row.ensures.reads

pub returns-clause-reads : goal.returns-clause-reads
returns-clause-reads g c =
    let row = c.in_ok-row.row in
    let test = is_of_item c.args.item in
    reads_as kept_total2 (IsOnly kept_total2 test) (λ rows total. IsOnly kept_total2 test rows (total_row c.args.item total)) (λ rows. ¬ HasOne kept_total2 test rows) (λ rows. ¬ HasOne kept_total2 test rows)
    (state g.S.Store c.args.tx.now.conn.now) (state g.S.Store c.row_of.new.tx.conn.now) row (record { life = row.life; clock = row.clock })
    (λ rows only. subst (λ n. IsOnly kept_total2 test rows (record row { item = n })) (item_is c.args.item rows row only) only) c.in_ok-row.ensures.reads
