use Rattle.std.proofs.Common.{sym, subst, arith, ◌∙◌}
use Rattle.sqlite.specs.Held.{state}
use Rattle.sqlite.specs.State.{HasCleanDisk}
use Rattle.mx_layout.specs.Making.{IsBlank}
use Rattle.mx_layout.specs.Tables.{no_schema}
use Rattle.mx_layout.proofs.making.fill_new.Goals as goal

pub returns-in-Ok-clause-makes : goal.returns-in-Ok-clause-makes
returns-in-Ok-clause-makes g c clean inside blank =
    let mid = state g.S.Store c.ask.new.tx.conn.now in
    let early : HasCleanDisk mid = omega (arith, c.fill.ensures.stays.within.survives.clean) in
    let same = c.in_ok-ask.ensures.unchanged early in
    c.in-Ok.ensures.makes clean (same.0.mode ∙ inside) (subst (IsBlank no_schema) (sym same.0.now_is) blank)
