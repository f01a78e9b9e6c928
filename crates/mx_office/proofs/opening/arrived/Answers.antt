use Rattle.std.proofs.Common.{◌≡◌, Ok, inl, inr, sym, ap, subst, ◌∙◌, true, false}
use Rattle.mx_base.specs.declared.point.Point.{Point}
use Rattle.mx_layout.specs.Point.{TellsPoint}
use Rattle.mx_office.specs.Faults.{IsStop, is_office_point}
use Rattle.mx_office.specs.Layout.{office_point}
use Rattle.mx_office.proofs.AnswerLemmas.{move_stops, moved_stop, moved_stopped, point_of_office}
use Rattle.mx_office.proofs.opening.arrived.Goals as goal

pub returns-then-is_office_point-clause-told : goal.returns-then-is_office_point-clause-told
returns-then-is_office_point-clause-told g c clean none =
    let own = point_of_office c.in-Ok.at (sym c.is_office_point.ensures ∙ c.if-is_office_point.true) in
    subst (λ (p : Point). TellsPoint g.S.Store c.args.conn.now (Ok p)) own (c.in-Ok.ensures.told clean)

pub returns-then-is_office_point-clause-exact : goal.returns-then-is_office_point-clause-exact
returns-then-is_office_point-clause-exact g c clean p holds fits =
    sym (c.in-Ok.ensures.exact p clean holds fits) ∙ point_of_office c.in-Ok.at (sym c.is_office_point.ensures ∙ c.if-is_office_point.true)

pub returns-else-is_office_point-clause-exact : goal.returns-else-is_office_point-clause-exact
returns-else-is_office_point-clause-exact g c clean p holds fits =
    inr (λ own.
    let same : false ≡ true = sym c.if-is_office_point.false ∙ c.is_office_point.ensures ∙ ap is_office_point (c.in-Ok.ensures.exact p clean holds fits ∙ own) in
    absurd cc)

pub returns-in-Err-clause-exact : goal.returns-in-Err-clause-exact
returns-in-Err-clause-exact g c clean p holds fits =
    inl (subst IsStop (sym c.moved_fault_of.ensures) (moved_stop c.fault_of.result (move_stops c.in-Err.fault c.fault_of.result c.fault_of.ensures (c.in-Err.ensures.exact p clean holds fits))))
