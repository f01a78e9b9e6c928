use Rattle.std.proofs.Common.{◌∙◌, Err, sym, subst}
use Rattle.sqlite.specs.Held.{state}
use Rattle.mx_layout.specs.declared.fault.TableFault.TheVariants.{Damaged}
use Rattle.mx_migrate.specs.Seeing.{SeesNone}
use Rattle.mx_migrate.proofs.LengthLemmas.{items_of, none_of, some_of}
use Rattle.mx_migrate.proofs.LookLemmas.{no_rows, rows_left, rows_stop}
use Rattle.mx_migrate.proofs.looking.none_left.Goals as goal

pub returns-in_err-found-clause-sees : goal.returns-in_err-found-clause-sees
returns-in_err-found-clause-sees g c =
    rows_stop g.R.Stored.kept _ (state g.S.Store c.args.tx.now.conn.now) (state g.S.Store c.rows.new.tx.conn.now) c.in_err-found.field-0.0 c.from_residual.result c.from_residual.ensures.1 c.in_err-found.ensures.reads

pub returns-then-is_empty-clause-sees : goal.returns-then-is_empty-clause-sees
returns-then-is_empty-clause-sees g c =
    no_rows g.R.Stored.kept items_of (state g.S.Store c.args.tx.now.conn.now) (state g.S.Store c.rows.new.tx.conn.now) c.in_ok-found.found tt (none_of c.in_ok-found.found (sym c.is_empty.ensures ∙ c.if-is_empty.true)) c.in_ok-found.ensures.reads

pub returns-clause-sees : goal.returns-clause-sees
returns-clause-sees g c =
    let k = g.R.Stored.kept in
    let old = state g.S.Store c.args.tx.now.conn.now in
    let new = state g.S.Store c.rows.new.tx.conn.now in
    let some = some_of c.in_ok-found.found (sym c.is_empty.ensures ∙ c.if-is_empty.false) in
    subst (λ name. SeesNone k old new (Err (Damaged name))) (sym c.texts.ensures.table)
    (rows_left k items_of old new c.in_ok-found.found some.0 some.1 some.2 c.in_ok-found.ensures.reads)
