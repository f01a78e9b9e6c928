use Rattle.std.proofs.lemmas.Result.{IfOk-weaker}
use Rattle.sqlite.specs.Held.{state}
use Rattle.sqlite.specs.State.{IsUnchanged}
use Rattle.sqlite.specs.Values.{bound}
use Rattle.mx_layout.specs.Crash.{StaysInside}
use Rattle.mx_layout.proofs.InsideLemmas.{shown_stays}
use Rattle.mx_layout.proofs.QueryLemmas.{query_within}
use Rattle.mx_layout.specs.kept.Family.{IsReadableAs}
use Rattle.mx_tables.proofs.AnswerLemmas.{answer_read}
use Rattle.mx_table_rows.specs.chosen.Choices.{AreFirst}
use Rattle.mx_table_rows.proofs.ChosenProofs.AnswerLemmas.{answer_made, answer_other}
use Rattle.mx_table_rows.proofs.chosen.chosen.read_chosen.Goals as goal

pub returns-clause-within : goal.returns-clause-within
returns-clause-within g c =
    query_within (λ v. v.items) (state g.S.Store c.args.tx.now.conn.now) (state g.S.Store c.query_all-answer.new.self.conn.now) c.args.sql.now (bound c.args.values.now) c.query_all-answer.result c.query_all-answer.ensures.survives c.query_all-answer.ensures.ok c.query_all-answer.ensures.err

pub returns-clause-inside : goal.returns-clause-inside
returns-clause-inside g c clean inside =
    let old = state g.S.Store c.args.tx.now.conn.now in
    let new = state g.S.Store c.query_all-answer.new.self.conn.now in
    answer_read (StaysInside old new) c.query_all-answer.result c.answered.result c.answered.ensures.stopped (IfOk-weaker c.query_all-answer.result _ _ (λ v shown. shown_stays old new c.args.sql.now (bound c.args.values.now) v.items inside shown) (c.query_all-answer.ensures.ok clean))

pub returns-clause-unchanged : goal.returns-clause-unchanged
returns-clause-unchanged g c most shown order chosen shows clean =
    answer_read (IsUnchanged (state g.S.Store c.args.tx.now.conn.now) (state g.S.Store c.query_all-answer.new.self.conn.now)) c.query_all-answer.result c.answered.result c.answered.ensures.stopped (IfOk-weaker c.query_all-answer.result _ _ (λ v seen. shows.same v.items seen) (c.query_all-answer.ensures.ok clean))

pub returns-clause-rows : goal.returns-clause-rows
returns-clause-rows g c most shown order chosen shows clean =
    answer_made (λ v. v.items) (λ rows. rows.items) g.R.Stored.kept.as_cells (AreFirst most order shown chosen (state g.S.Store c.args.tx.now.conn.now).now.trees) c.query_all-answer.result c.answered.result c.answered.ensures.stopped
    (IfOk-weaker c.query_all-answer.result _ _ (λ v seen. shows.those v.items seen) (c.query_all-answer.ensures.ok clean)) c.answered.ensures.rows

pub returns-clause-damaged : goal.returns-clause-damaged
returns-clause-damaged g c most shown order chosen shows clean is =
    answer_other (λ v. v.items) (IsReadableAs g.R.Stored.kept) (AreFirst most order shown chosen (state g.S.Store c.args.tx.now.conn.now).now.trees) c.args.table c.query_all-answer.result c.answered.result c.answered.ensures.stopped
    (IfOk-weaker c.query_all-answer.result _ _ (λ v seen. shows.those v.items seen) (c.query_all-answer.ensures.ok clean)) c.answered.ensures.damaged is
