use Rattle.std.proofs.Common.{rules, ◌≡◌, ◌≤◌, refl, inl, inr, arith}
use Rattle.sqlite.specs.Held.{Held, state}
use Rattle.sqlite.specs.Store.{Ghosts}
use Rattle.sqlite_trees.specs.View.{doubt}
use Rattle.sqlite.specs.State.{HasCleanDisk}
use Rattle.mx_layout.specs.Listed.{LacksOffice}
use Rattle.mx_layout.proofs.AnswerLemmas.{unnamed_none, unnamed_stops}
use Rattle.mx_layout.proofs.ListedLemmas.{not_lacking}
use Rattle.mx_layout.proofs.reading.point.Goals as goal

-- a disk that is clean behind a transaction was so before its end
early_clean : {S : Type 0} (g : Ghosts S) (last end final : Held S) → end ≡ final → doubt (state g last).is_clean ≤ doubt (state g end).is_clean → HasCleanDisk (state g final) → HasCleanDisk (state g last)
early_clean g last end final same less clean = let late : HasCleanDisk (state g end) = rw same clean in omega arith

pub returns-clause-reads : goal.returns-clause-reads
returns-clause-reads g c clean has =
    let early = early_clean g.S.Store c.point_in-read.new.tx.conn.now c.drop-tx-2.new.self.0 c.conn-2-1.given.0 (search rules) c.drop-tx-2.ensures.survives.clean clean in
    let lacks : LacksOffice c.args.conn.now.schema = search rules in
    let opened = rw c.transaction-tx.ensures.begun at (c.point_in-read.ensures.open early) in
    inl (rw c.unnamed.ensures (unnamed_stops c.point_in-read.result opened (λ is_open. not_lacking c.args.conn.now.schema (has is_open) lacks)))

pub returns-clause-exact : goal.returns-clause-exact
returns-clause-exact g c p clean holds fits =
    let early = early_clean g.S.Store c.point_in-read.new.tx.conn.now c.drop-tx-2.new.self.0 c.conn-2-1.given.0 (search rules) c.drop-tx-2.ensures.survives.clean clean in
    let lacks : LacksOffice c.args.conn.now.schema = search rules in
    let opened = rw c.transaction-tx.ensures.begun at (c.point_in-read.ensures.open early) in
    rw c.unnamed.ensures (unnamed_stops c.point_in-read.result opened (λ is_open. not_lacking c.args.conn.now.schema (holds is_open).0 lacks))

pub returns-then-named-clause-told : goal.returns-then-named-clause-told
returns-then-named-clause-told g c clean =
    let early = early_clean g.S.Store c.point_in-read.new.tx.conn.now c.drop-tx.new.self.0 c.conn-1.given.0 (search rules) c.drop-tx.ensures.survives.clean clean in
    inr (c.transaction-tx.result.conn.now, c.point_in-read.new.tx.conn.now, rw c.transaction-tx.ensures.begun refl, c.point_in-read.ensures.answered early)

pub returns-clause-told : goal.returns-clause-told
returns-clause-told g c clean =
    let lacks : LacksOffice c.args.conn.now.schema = search rules in
    inl (lacks, rw c.unnamed.ensures (unnamed_none c.point_in-read.result))
