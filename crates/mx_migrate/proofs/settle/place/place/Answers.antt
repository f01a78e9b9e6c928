use Rattle.std.proofs.Common.{Ok, Err, sym, ap, subst}
use Rattle.sqlite.specs.Held.{state}
use Rattle.mx_migrate.specs.settle.Place.{TellsPlace}
use Rattle.mx_migrate.proofs.SettleProofs.PlaceLemmas.{told, untold}
use Rattle.mx_migrate.proofs.settle.place.place.Goals as goal

pub returns-in-Ok-clause-read : goal.returns-in-Ok-clause-read
returns-in-Ok-clause-read g c clean = (Ok c.in-Ok.at, c.in-Ok.ensures.told clean, c.checked.ensures)

pub returns-in-Err-clause-read : goal.returns-in-Err-clause-read
returns-in-Err-clause-read g c clean = (Err c.in-Err.fault, c.in-Err.ensures.told clean, ap Err c.fault_of.ensures)

pub returns-in-Ok-clause-tells : goal.returns-in-Ok-clause-tells
returns-in-Ok-clause-tells g c =
    let old = state g.S.Store c.args.conn.now in
    let new = state g.S.Store c.point.new.conn in
    let e = c.in-Ok.ensures in
    subst (TellsPlace old new) (sym c.checked.ensures)
    (told old new c.point.ensures.unchanged c.in-Ok.at e.open (λ p clean holds fits. e.exact p clean holds fits) (λ clean lacks. e.absent clean lacks))

pub returns-in-Err-clause-tells : goal.returns-in-Err-clause-tells
returns-in-Err-clause-tells g c =
    let old = state g.S.Store c.args.conn.now in
    let new = state g.S.Store c.point.new.conn in
    let e = c.in-Err.ensures in
    subst (λ f. TellsPlace old new (Err f)) (sym c.fault_of.ensures)
    (untold old new c.point.ensures.unchanged c.in-Err.fault (λ p clean holds fits. e.exact p clean holds fits) (λ clean lacks. e.absent clean lacks))
