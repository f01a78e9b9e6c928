use Rattle.std.proofs.Common.{ap, subst}
use Rattle.sqlite.specs.Held.{state}
use Rattle.mx_book.specs.due.Due.{IsLife}
use Rattle.mx_base.specs.declared.amounts.Use.{Use}
use Rattle.mx_base.specs.declared.rows.rows.TotalRow.{TotalRow}
use Rattle.mx_layout.specs.kept.Cells.{kept_total2}
use Rattle.mx_layout.proofs.KeptProofs.MovedLawful.{total2_lawful}
use Rattle.mx_table_rows.specs.totals.Single.{IsOnly, HasOne}
use Rattle.mx_table_rows.specs.totals.Totals.{is_of_item, life_with, CanCredit, IsCredited}
use Rattle.mx_table_rows.proofs.TotalsProofs.ReadLemmas.{reads_as, reads_worse, stops_reading, only_once}
use Rattle.mx_table_rows.proofs.totals.totals.row_with.Goals as goal

pub returns-in_err-row-clause-reads : goal.returns-in_err-row-clause-reads
returns-in_err-row-clause-reads g c =
    let test = is_of_item c.args.item in
    stops_reading kept_total2 (IsOnly kept_total2 test) (λ rows. IsCredited c.args.added rows c.args.item) (λ rows. ¬ HasOne kept_total2 test rows) (λ rows. ¬ CanCredit c.args.added rows c.args.item)
    (state g.S.Store c.args.tx.now.conn.now) (state g.S.Store c.row_of.new.tx.conn.now) c.in_err-row.field-0.0 c.from_residual.result c.from_residual.ensures.1
    (λ rows none one. none (one.0, one.1.only)) c.in_err-row.ensures.reads

pub returns-in-Some-clause-reads : goal.returns-in-Some-clause-reads
returns-in-Some-clause-reads g c =
    let row = c.in_ok-row.row in
    let test = is_of_item c.args.item in
    reads_as kept_total2 (IsOnly kept_total2 test) (λ rows. IsCredited c.args.added rows c.args.item) (λ rows. ¬ HasOne kept_total2 test rows) (λ rows. ¬ CanCredit c.args.added rows c.args.item)
    (state g.S.Store c.args.tx.now.conn.now) (state g.S.Store c.row_of.new.tx.conn.now) row (record row { life = c.in-Some.life })
    (λ rows only. record { was = row; can = record { only = only; life = c.in-Some.ensures.0 }; is = ap (λ (life : Use). record row { life = life }) c.in-Some.ensures.1 }) c.in_ok-row.ensures.reads

pub returns-in-None-clause-reads : goal.returns-in-None-clause-reads
returns-in-None-clause-reads g c =
    let row = c.in_ok-row.row in
    let test = is_of_item c.args.item in
    reads_worse kept_total2 (IsOnly kept_total2 test) (λ rows. IsCredited c.args.added rows c.args.item) (λ rows. ¬ HasOne kept_total2 test rows) (λ rows. ¬ CanCredit c.args.added rows c.args.item)
    (state g.S.Store c.args.tx.now.conn.now) (state g.S.Store c.row_of.new.tx.conn.now) row
    (λ rows only can. c.in-None.ensures (subst (λ (t : TotalRow). IsLife (life_with t.life c.args.added)) (only_once kept_total2 total2_lawful test rows can.0 row can.1.only only) can.1.life)) c.in_ok-row.ensures.reads
