use Rattle.std.proofs.Common.{List, subst}
use Rattle.sqlite.specs.Held.{state}
use Rattle.mx_base.specs.declared.rows.rows.DoneRow.{DoneRow}
use Rattle.mx_table_rows.specs.totals.Late.{CantCreditLate}
use Rattle.mx_table_rows.specs.totals.LateSteps.{ReadsLate, AreOfEach, AreUnread, AreTaken, OneCantTake, AreLate}
use Rattle.mx_table_rows.proofs.TotalsProofs.CreditLemmas.{no_two}
use Rattle.mx_table_rows.proofs.TotalsProofs.LateCalls.{unread_is, some_cant}
use Rattle.mx_table_rows.proofs.TotalsProofs.LateReads.{reads_then, stops_late}
use Rattle.mx_table_rows.proofs.totals.late.late_rows.Goals as goal

pub returns-clause-reads : goal.returns-clause-reads
returns-clause-reads g c =
    let items = c.args.items.now in
    let added = c.args.added in
    let landed = c.args.landed in
    let rows = c.in_ok-rows.rows in
    let old = state g.S.Store c.args.tx.now.conn.now in
    let mid = state g.S.Store c.rows_of.new.tx.conn.now in
    let new = state g.S.Store c.rows_with.new.tx.conn.now in
    reads_then (λ trees v. AreOfEach items trees v.items) (λ trees made. AreTaken added landed rows.items trees made.items) (λ trees made. AreLate items added landed trees made.items)
    (AreUnread items) (OneCantTake added landed rows.items) (CantCreditLate items added landed) old mid new rows c.rows_with.result
    (λ trees made read taken. record { done = rows.items; read = read; taken = taken }) (λ trees name read cant. some_cant items (no_two items c.requires) added landed trees rows.items read name cant)
    c.in_ok-rows.ensures.reads
    (subst (λ (done : List DoneRow). ReadsLate (λ trees made. AreTaken added landed done trees made.items) (OneCantTake added landed done) mid new c.rows_with.result) c.deref.ensures.value c.rows_with.ensures.reads)

pub returns-in_err-rows-clause-reads : goal.returns-in_err-rows-clause-reads
returns-in_err-rows-clause-reads g c =
    let items = c.args.items.now in
    stops_late (λ trees v. AreOfEach items trees v.items) (λ trees made. AreLate items c.args.added c.args.landed trees made.items) (AreUnread items) (CantCreditLate items c.args.added c.args.landed)
    (state g.S.Store c.args.tx.now.conn.now) (state g.S.Store c.rows_of.new.tx.conn.now) c.in_err-rows.field-0.0 c.from_residual.result c.from_residual.ensures.1
    (λ trees name bad. unread_is items (no_two items c.requires) c.args.added c.args.landed trees name bad) c.in_err-rows.ensures.reads
