use Rattle.std.proofs.Common.{◌≡◌, Ok, inl, inr, sym, subst, ◌∙◌, arith}
use Rattle.sqlite.specs.Held.{state}
use Rattle.sqlite.specs.State.{HasCleanDisk}
use Rattle.mx_base.specs.declared.point.Point.{Point}
use Rattle.mx_layout.specs.Point.{TellsPoint}
use Rattle.mx_migrate.proofs.SettleProofs.AdvanceLemmas.{still}
use Rattle.mx_migrate.proofs.SettleProofs.PlaceLemmas.{file_fits, rests_placed}
use Rattle.mx_office.specs.Opening.{HasReason}
use Rattle.mx_office.proofs.AnswerLemmas.{answers_office, file_answers, open_absent, open_not_ours, open_reason, open_stops, point_ours, point_reason, point_says, way_reason, way_says}
use Rattle.mx_office.proofs.MoveLemmas.{answers_there, is_at_book, moves_then, placed_holds, stays_shut}
use Rattle.mx_office.proofs.opening.unopened.Goals as goal

pub returns-then-is_on_way-clause-moves : goal.returns-then-is_on_way-clause-moves
returns-then-is_on_way-clause-moves g c =
    moves_then (state g.S.Store c.args.conn.now) (state g.S.Store c.point.new.conn) c.point.ensures.unchanged (state g.S.Store c.move_on.new.conn) c.move_on.result c.move_on.ensures.moves

pub returns-then-is_on_way-clause-there : goal.returns-then-is_on_way-clause-there
returns-then-is_on_way-clause-there g c clean none = c.move_on.ensures.there clean none

pub returns-then-is_on_way-clause-changes : goal.returns-then-is_on_way-clause-changes
returns-then-is_on_way-clause-changes g c =
    inr (λ clean.
    let early : HasCleanDisk (state g.S.Store c.point.new.conn) = omega (arith, c.move_on.ensures.moves.clean) in
    record { at = c.in-Ok.at; way = sym c.is_on_way.ensures ∙ c.if-is_on_way.true; told = c.in-Ok.ensures.told early; exact = λ p holds fits. c.in-Ok.ensures.exact p early holds fits })

pub returns-then-is_on_way-clause-told : goal.returns-then-is_on_way-clause-told
returns-then-is_on_way-clause-told g c clean =
    let early : HasCleanDisk (state g.S.Store c.point.new.conn) = omega (arith, c.move_on.ensures.moves.clean) in
    way_says g.S.Store c.args.conn.now c.in-Ok.at (c.in-Ok.ensures.told early) (sym c.is_on_way.ensures ∙ c.if-is_on_way.true) c.move_on.result c.move_on.ensures.stops

pub returns-then-is_on_way-clause-ours : goal.returns-then-is_on_way-clause-ours
returns-then-is_on_way-clause-ours g c clean none =
    let early : HasCleanDisk (state g.S.Store c.point.new.conn) = omega (arith, c.move_on.ensures.moves.clean) in
    point_ours (state g.S.Store c.args.conn.now) c.in-Ok.at (λ has. c.in-Ok.ensures.reads early has) (λ p holds fits. c.in-Ok.ensures.exact p early holds fits) (λ lacks. c.in-Ok.ensures.absent early lacks)
    (file_answers c.in-Ok.at (inl (sym c.is_on_way.ensures ∙ c.if-is_on_way.true)))

pub returns-then-is_on_way-clause-reason : goal.returns-then-is_on_way-clause-reason
returns-then-is_on_way-clause-reason g c clean why is =
    let old = state g.S.Store c.args.conn.now in
    let mid = state g.S.Store c.point.new.conn in
    let early : HasCleanDisk mid = omega (arith, c.move_on.ensures.moves.clean) in
    way_reason old c.in-Ok.at (λ has. c.in-Ok.ensures.reads early has) (λ p holds fits. c.in-Ok.ensures.exact p early holds fits) (λ lacks. c.in-Ok.ensures.absent early lacks) why (sym c.is_on_way.ensures ∙ c.if-is_on_way.true)
    (c.move_on.ensures.stops why is) (λ at book file rests. c.move_on.ensures.whole at book file (still at book old mid c.point.ensures.unchanged rests) clean why is)

pub returns-else-is_on_way-clause-moves : goal.returns-else-is_on_way-clause-moves
returns-else-is_on_way-clause-moves g c =
    answers_there (state g.S.Store c.args.conn.now) (state g.S.Store c.point.new.conn) c.point.ensures.unchanged c.in-Ok.at (λ clean. c.in-Ok.ensures.open clean) (λ p clean holds fits. c.in-Ok.ensures.exact p clean holds fits)
    (sym c.is_on_way.ensures ∙ c.if-is_on_way.false) c.open_answer.result (sym c.open_answer.ensures)

pub returns-else-is_on_way-clause-there : goal.returns-else-is_on_way-clause-there
returns-else-is_on_way-clause-there g c clean none =
    let own = answers_office c.in-Ok.at (sym c.open_answer.ensures ∙ none) (sym c.is_on_way.ensures ∙ c.if-is_on_way.false) in
    (c.args.conn.now, subst (λ (p : Point). TellsPoint g.S.Store c.args.conn.now (Ok p)) own (c.in-Ok.ensures.told clean), c.point.ensures.unchanged)

pub returns-else-is_on_way-clause-told : goal.returns-else-is_on_way-clause-told
returns-else-is_on_way-clause-told g c clean = point_says g.S.Store c.args.conn.now c.in-Ok.at (c.in-Ok.ensures.told clean) c.open_answer.result (sym c.open_answer.ensures)

pub returns-else-is_on_way-clause-ours : goal.returns-else-is_on_way-clause-ours
returns-else-is_on_way-clause-ours g c clean none =
    point_ours (state g.S.Store c.args.conn.now) c.in-Ok.at (λ has. c.in-Ok.ensures.reads clean has) (λ p holds fits. c.in-Ok.ensures.exact p clean holds fits) (λ lacks. c.in-Ok.ensures.absent clean lacks) (sym c.open_answer.ensures ∙ none)

pub returns-else-is_on_way-clause-reason : goal.returns-else-is_on_way-clause-reason
returns-else-is_on_way-clause-reason g c clean why is =
    let old = state g.S.Store c.args.conn.now in
    point_reason old c.in-Ok.at (λ has. c.in-Ok.ensures.reads clean has) (λ p holds fits. c.in-Ok.ensures.exact p clean holds fits) (λ lacks. c.in-Ok.ensures.absent clean lacks) why (sym c.open_answer.ensures ∙ is)
    (is_at_book old (state g.S.Store c.point.new.conn) c.point.ensures.unchanged c.in-Ok.at (λ sure. c.in-Ok.ensures.open sure) (λ p sure holds fits. c.in-Ok.ensures.exact p sure holds fits) clean)

pub returns-in-Err-clause-moves : goal.returns-in-Err-clause-moves
returns-in-Err-clause-moves g c = stays_shut (state g.S.Store c.args.conn.now) (state g.S.Store c.point.new.conn) c.point.ensures.unchanged c.open_fault_of.result

pub returns-in-Err-clause-reason : goal.returns-in-Err-clause-reason
returns-in-Err-clause-reason g c clean why is =
    let old = state g.S.Store c.args.conn.now in
    let early : HasCleanDisk old = omega (arith, c.point.ensures.unchanged.survives.clean) in
    let f = c.in-Err.fault in
    let answered = c.open_fault_of.result in
    let stops = open_stops f answered c.open_fault_of.ensures in
    let same : answered ≡ why = cc in
    let reason : HasReason old answered = record {
      exact = λ p holds fits. inr (stops (c.in-Err.ensures.exact p clean holds fits));
      reason = λ has. open_reason _ f answered c.open_fault_of.ensures (c.in-Err.ensures.reads clean has);
      not_ours = λ has. open_not_ours _ f answered c.open_fault_of.ensures (c.in-Err.ensures.reads clean has);
      absent = λ none. open_absent f answered c.open_fault_of.ensures (c.in-Err.ensures.absent clean none);
      whole = λ at book file rests. stops (c.in-Err.ensures.exact at clean (λ is_open. placed_holds old at (rests_placed old at book rests) early is_open) (file_fits at file));
    } in
    subst (HasReason old) same reason
