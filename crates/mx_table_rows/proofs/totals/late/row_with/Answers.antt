use Rattle.std.proofs.Common.{rules, ◌≡◌, ◌≢◌, false, None, Some, subst, sym}
use Rattle.std.specs.Prelude.{nat_lt}
use Rattle.sqlite.specs.Held.{state}
use Rattle.mx_base.specs.declared.rows.rows.DoneRow.{DoneRow}
use Rattle.mx_table_rows.specs.totals.LateSteps.{IsTaken, CantTake}
use Rattle.mx_table_rows.proofs.TotalsProofs.LateLoops.{ItsRelease, release_missing, release_read, release_past}
use Rattle.mx_table_rows.proofs.TotalsProofs.LateReads.{reads_nothing, stops_late}
use Rattle.mx_table_rows.proofs.TotalsProofs.LateRows.{taken_stated, taken_before, taken_behind, cant_take}
use Rattle.mx_table_rows.proofs.totals.late.row_with.Goals as goal

pub returns-then-row-eq0-clause-reads : goal.returns-then-row-eq0-clause-reads
returns-then-row-eq0-clause-reads g c =
    let s = state g.S.Store c.args.tx.now.conn.now in
    reads_nothing (IsTaken c.args.added c.args.landed c.args.row) (CantTake c.args.added c.args.landed c.args.row) s None
    (taken_stated c.args.added c.args.landed c.args.row s.now.trees (search rules))

pub returns-in_err-release-clause-reads : goal.returns-in_err-release-clause-reads
returns-in_err-release-clause-reads g c =
    let x = c.args.row in
    let added = c.args.added in
    let landed = c.args.landed in
    let old = state g.S.Store c.args.tx.now.conn.now in
    let new = state g.S.Store c.release_of.new.tx.conn.now in
    let some : x.line ≢ 0 = (search rules) in
    stops_late (ItsRelease added landed x some old new) (IsTaken added landed x) (CantTake added landed x) (CantTake added landed x) old new c.in_err-release.field-0.0 c.from_residual.result c.from_residual.ensures.1
    (λ trees name cant. cant) (release_missing added landed x some old new c.in_err-release.field-0.0 c.in_err-release.ensures.reads)

pub returns-then-lt-clause-reads : goal.returns-then-lt-clause-reads
returns-then-lt-clause-reads g c =
    let x = c.args.row in
    let release = c.in_ok-release.release in
    let some : x.line ≢ 0 = (search rules) in
    release_read c.args.added c.args.landed x some (state g.S.Store c.args.tx.now.conn.now) (state g.S.Store c.release_of.new.tx.conn.now) release None
    (λ trees only. taken_before c.args.added c.args.landed x trees release some only (search rules)) c.in_ok-release.ensures.reads

pub returns-in-Some-clause-reads : goal.returns-in-Some-clause-reads
returns-in-Some-clause-reads g c =
    let x = c.args.row in
    let release = c.in_ok-release.release in
    let some : x.line ≢ 0 = (search rules) in
    let from : nat_lt release.moment c.args.landed ≡ false = (search rules) in
    release_read c.args.added c.args.landed x some (state g.S.Store c.args.tx.now.conn.now) (state g.S.Store c.release_of.new.tx.conn.now) release (Some c.in-Some.late)
    (λ trees only. subst (λ (y : DoneRow). IsTaken c.args.added c.args.landed x trees (Some y)) (sym c.in-Some.ensures.1)
    (taken_behind c.args.added c.args.landed x trees release some only from c.in-Some.ensures.0.0 c.in-Some.ensures.0.1)) c.in_ok-release.ensures.reads

pub returns-in-None-clause-reads : goal.returns-in-None-clause-reads
returns-in-None-clause-reads g c =
    let x = c.args.row in
    let release = c.in_ok-release.release in
    let some : x.line ≢ 0 = (search rules) in
    let from : nat_lt release.moment c.args.landed ≡ false = (search rules) in
    release_past c.args.added c.args.landed x some (state g.S.Store c.args.tx.now.conn.now) (state g.S.Store c.release_of.new.tx.conn.now) release
    (λ trees only. cant_take c.args.added c.args.landed x trees release some only from c.in-None.ensures) c.in_ok-release.ensures.reads
