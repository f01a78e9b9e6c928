use Rattle.std.proofs.Common.{◌≡◌, true, false, Vec, sym, ap, ◌∙◌}
use Rattle.std.specs.List.{list_all}
use Rattle.std.specs.declared.alloc.Global.{Global}
use Rattle.sqlite.specs.Held.{state}
use Rattle.mx_base.specs.declared.rows.rows.DeferralRow.{DeferralRow}
use Rattle.mx_base.specs.declared.point.Point.{Point}
use Rattle.mx_registers.specs.points.Moves.{last_moved}
use Rattle.mx_registers.specs.points.Points.{moving_from}
use Rattle.mx_book_tables.specs.reading.Deferrals.{deferrals_in}
use Rattle.mx_moves.specs.steps.Deferrals.{is_deferral_next}
use Rattle.mx_migrate.proofs.RunLemmas.{deferrals_move, deferrals_off, deferrals_stop, stopped_by}
use Rattle.mx_migrate.proofs.deferrals.MoveDeferralsMigrate.run.Goals as goal

pub returns-in_err-read-clause-runs : goal.returns-in_err-read-clause-runs
returns-in_err-read-clause-runs g c =
    stopped_by _ _ _ (state g.S.Store c.args.tx.now.conn.now) (state g.S.Store c.first_deferrals.new.tx.conn.now) c.in_err-read.field-0.0 c.from_residual.result c.from_residual.ensures.1
    (deferrals_stop c.args.self.now.mark c.args.self.now.rows.items _ _ _ c.in_err-read.field-0.0 c.in_err-read.ensures.reads)

pub returns-then-not-are_due-clause-runs : goal.returns-then-not-are_due-clause-runs
returns-then-not-are_due-clause-runs g c =
    let mark = c.args.self.now.mark in
    deferrals_off mark c.args.self.now.rows.items (λ (v : Vec DeferralRow Global). v.items) (state g.S.Store c.args.tx.now.conn.now) (state g.S.Store c.first_deferrals.new.tx.conn.now) c.in_ok-read.read c.in_ok-read.ensures.reads
    (λ same next.
    let yes = c.are_due.ensures.1 (ap deferrals_in c.deref.ensures.value ∙ same ∙ sym c.deref-2.ensures.value, ap (list_all (is_deferral_next mark)) c.deref-2.ensures.value ∙ next) in
    let never : true ≡ false = sym yes ∙ c.if-not-are_due.true in absurd cc)

pub returns-clause-runs : goal.returns-clause-runs
returns-clause-runs g c =
    let mark = c.args.self.now.mark in
    let rows = c.args.self.now.rows.items in
    let read = c.in_ok-read.read.items in
    let to : Point = record { layout = 2; step = 1; mark = c.last_seq.result } in
    let due = c.are_due.ensures.0 c.if-not-are_due.false in
    let same : read ≡ deferrals_in rows = sym c.deref-2.ensures.value ∙ sym due.0 ∙ ap deferrals_in c.deref.ensures.value in
    let next : list_all (is_deferral_next mark) read ≡ true = ap (list_all (is_deferral_next mark)) (sym c.deref-2.ensures.value) ∙ due.1 in
    let last : to ≡ moving_from 2 1 (last_moved (λ (row : DeferralRow). row.seq) mark read) = ap (moving_from 2 1) (c.last_seq.ensures ∙ ap (last_moved (λ (row : DeferralRow). row.seq) mark) c.deref-3.ensures.value) in
    deferrals_move mark rows (λ (v : Vec DeferralRow Global). v.items) (state g.S.Store c.args.tx.now.conn.now) (state g.S.Store c.first_deferrals.new.tx.conn.now) c.in_ok-read.read c.in_ok-read.ensures.reads
    (state g.S.Store c.write_moved.new.tx.conn.now) to c.write_moved.result c.reached.result c.reached.ensures same next last c.write_moved.ensures.alters
