use Rattle.std.proofs.Common.{◌≡◌, sym, subst, ◌∙◌}
use Rattle.sqlite.specs.Held.{state}
use Rattle.mx_office.specs.Opening.{IsArrived}
use Rattle.mx_office.proofs.MoveLemmas.{moved_there, stopped_on_way, whole_away, whole_on_way}
use Rattle.mx_office.proofs.opening.move_on.Goals as goal

pub returns-in-Ok-clause-moves : goal.returns-in-Ok-clause-moves
returns-in-Ok-clause-moves g c =
    moved_there c.args.at_most (state g.S.Store c.args.conn.now) (state g.S.Store c.settle.new.conn) (state g.S.Store c.arrived.new.conn) _ c.in-Ok.ensures.settles c.arrived.ensures.unchanged c.arrived.result (λ clean none. c.arrived.ensures.open clean none) (λ clean p holds fits. c.arrived.ensures.exact clean p holds fits)

pub returns-in-Ok-clause-there : goal.returns-in-Ok-clause-there
returns-in-Ok-clause-there g c clean none = (c.settle.new.conn, c.arrived.ensures.told clean none, c.arrived.ensures.unchanged)

pub returns-in-Ok-clause-whole : goal.returns-in-Ok-clause-whole
returns-in-Ok-clause-whole g c at book file rests clean why is =
    whole_away c.args.at_most (state g.S.Store c.args.conn.now) (state g.S.Store c.settle.new.conn) (state g.S.Store c.arrived.new.conn) _ c.in-Ok.ensures.settles c.arrived.ensures.unchanged c.requires.enough why
    (λ sure p holds fits. subst (IsArrived p) is (c.arrived.ensures.exact sure p holds fits)) at book rests clean

pub returns-in-Err-clause-moves : goal.returns-in-Err-clause-moves
returns-in-Err-clause-moves g c =
    stopped_on_way c.args.at_most (state g.S.Store c.args.conn.now) (state g.S.Store c.settle.new.conn) c.in-Err.fault c.moved_fault_of.result c.moved_fault_of.ensures c.in-Err.ensures.settles

pub returns-in-Err-clause-whole : goal.returns-in-Err-clause-whole
returns-in-Err-clause-whole g c at book file rests clean why is =
    let same : c.moved_fault_of.result ≡ why = cc in
    whole_on_way c.args.at_most (state g.S.Store c.args.conn.now) (state g.S.Store c.settle.new.conn) c.in-Err.fault why (sym same ∙ c.moved_fault_of.ensures) c.in-Err.ensures.settles at book file rests clean
