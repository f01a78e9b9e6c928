use Rattle.std.proofs.Common.{[], IsTrue}
use Rattle.std.proofs.lemmas.Result.{IfOk-weaker}
use Rattle.sqlite.specs.Held.{state}
use Rattle.sqlite.specs.State.{IsUnchanged}
use Rattle.mx_layout.specs.Making.{ask_text}
use Rattle.mx_layout.proofs.AnswerLemmas.{answered_ok}
use Rattle.mx_layout.proofs.ListedLemmas.{ask_unchanged}
use Rattle.mx_layout.proofs.QueryLemmas.{shown_open, query_within}
use Rattle.mx_layout.proofs.making.ask.Goals as goal

pub returns-clause-open : goal.returns-clause-open
returns-clause-open g c clean =
    let old = state g.S.Store c.args.tx.now.conn.now in
    let new = state g.S.Store c.query_all-answer.new.self.conn.now in
    answered_ok (IsTrue old.is_open) c.query_all-answer.result c.answered.result c.answered.ensures.stopped
    (IfOk-weaker c.query_all-answer.result _ _ (λ v shown. shown_open old new ask_text [] v.items shown) (c.query_all-answer.ensures.ok clean))

pub returns-clause-unchanged : goal.returns-clause-unchanged
returns-clause-unchanged g c clean =
    let old = state g.S.Store c.args.tx.now.conn.now in
    let new = state g.S.Store c.query_all-answer.new.self.conn.now in
    answered_ok (IsUnchanged old new) c.query_all-answer.result c.answered.result c.answered.ensures.stopped
    (IfOk-weaker c.query_all-answer.result _ _ (λ v shown. ask_unchanged old new v.items shown) (c.query_all-answer.ensures.ok clean))

pub returns-clause-within : goal.returns-clause-within
returns-clause-within g c =
    query_within (λ v. v.items) (state g.S.Store c.args.tx.now.conn.now) (state g.S.Store c.query_all-answer.new.self.conn.now) ask_text [] c.query_all-answer.result c.query_all-answer.ensures.survives c.query_all-answer.ensures.ok c.query_all-answer.ensures.err
