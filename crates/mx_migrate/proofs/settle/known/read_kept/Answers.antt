use Rattle.std.proofs.Common.{rules, ◌≡◌, ◌∙◌, Err, None, sym, subst}
use Rattle.sqlite.specs.Held.{state}
use Rattle.mx_migrate.specs.settle.Choices.{FindsKept}
use Rattle.mx_migrate.proofs.SettleProofs.KnownLemmas.{as_said, kept_made, kept_unmade, late_stops, unread_stops}
use Rattle.mx_migrate.proofs.settle.known.read_kept.Goals as goal

pub returns-in_err-rows-clause-finds : goal.returns-in_err-rows-clause-finds
returns-in_err-rows-clause-finds g c begun =
    unread_stops (state g.S.Store c.args.tx.now.conn.now) (state g.S.Store c.register_rows.new.tx.conn.now) begun c.in_err-rows.field-0.0 c.from_residual.result c.from_residual.ensures.1 c.in_err-rows.ensures.reads

pub returns-in-Ok-clause-finds : goal.returns-in-Ok-clause-finds
returns-in-Ok-clause-finds g c begun =
    let none : c.late_table.result ≡ None = search rules in
    kept_made (state g.S.Store c.args.tx.now.conn.now) (state g.S.Store c.register_rows.new.tx.conn.now) begun c.in_ok-rows.rows c.in_ok-rows.ensures.reads c.in-Ok.kept (sym c.late_table.ensures ∙ none) c.in-Ok.ensures.whole c.in-Ok.ensures.merged

pub returns-in-Err-clause-finds : goal.returns-in-Err-clause-finds
returns-in-Err-clause-finds g c begun =
    let old = state g.S.Store c.args.tx.now.conn.now in
    let new = state g.S.Store c.register_rows.new.tx.conn.now in
    let none : c.late_table.result ≡ None = search rules in
    subst (λ f. FindsKept None old new (Err f)) (sym c.fault_by.ensures)
    (kept_unmade old new begun c.in_ok-rows.rows c.in_ok-rows.ensures.reads c.in-Err.why (sym c.late_table.ensures ∙ none) c.in-Err.ensures.whole
    (as_said old new begun c.in_ok-rows.rows c.in_ok-rows.ensures.reads c.in-Err.why c.in-Err.ensures.damaged c.in-Err.ensures.differs))

pub returns-in-Some-clause-finds : goal.returns-in-Some-clause-finds
returns-in-Some-clause-finds g c begun =
    late_stops (state g.S.Store c.args.tx.now.conn.now) (state g.S.Store c.register_rows.new.tx.conn.now) begun c.in_ok-rows.rows c.in_ok-rows.ensures.reads c.in-Some.table (sym c.late_table.ensures ∙ c.in-Some.is)
