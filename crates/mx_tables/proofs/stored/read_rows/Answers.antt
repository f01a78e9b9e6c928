use Rattle.std.proofs.lemmas.Result.{IfOk-weaker}
use Rattle.sqlite.specs.Held.{state}
use Rattle.sqlite.specs.State.{IsUnchanged}
use Rattle.mx_layout.specs.Crash.{StaysInside}
use Rattle.std.proofs.Common.{[]}
use Rattle.mx_layout.proofs.InsideLemmas.{shown_stays}
use Rattle.mx_layout.proofs.QueryLemmas.{query_within}
use Rattle.mx_layout.specs.kept.Family.{IsReadableAs}
use Rattle.mx_tables.proofs.AnswerLemmas.{answer_read, answer_rows, answer_damaged}
use Rattle.mx_tables.proofs.stored.read_rows.Goals as goal

pub returns-clause-stays : goal.returns-clause-stays
returns-clause-stays g c =
    let old = state g.S.Store c.args.tx.now.conn.now in
    let new = state g.S.Store c.query_all-answer.new.self.conn.now in
    let ran = c.query_all-answer.ensures in
    record {
      same_reference = ran.same_reference;
      inside = λ clean inside.
          answer_read (StaysInside old new) c.query_all-answer.result c.answered.result c.answered.ensures.stopped (IfOk-weaker c.query_all-answer.result _ _ (λ v shown. shown_stays old new c.args.sql.now [] v.items inside shown) (ran.ok clean));
      within = query_within (λ v. v.items) old new c.args.sql.now [] c.query_all-answer.result ran.survives ran.ok ran.err;
    }

pub returns-clause-unchanged : goal.returns-clause-unchanged
returns-clause-unchanged g c shown order shows clean =
    answer_read (IsUnchanged (state g.S.Store c.args.tx.now.conn.now) (state g.S.Store c.query_all-answer.new.self.conn.now)) c.query_all-answer.result c.answered.result c.answered.ensures.stopped (IfOk-weaker c.query_all-answer.result _ _ (λ v seen. shows.same v.items seen) (c.query_all-answer.ensures.ok clean))

pub returns-clause-rows : goal.returns-clause-rows
returns-clause-rows g c shown order shows clean =
    answer_rows (λ v. v.items) (λ rows. rows.items) g.R.Stored.kept.as_cells order shown (state g.S.Store c.args.tx.now.conn.now).now.trees c.query_all-answer.result c.answered.result c.answered.ensures.stopped
    (IfOk-weaker c.query_all-answer.result _ _ (λ v seen. shows.all v.items seen) (c.query_all-answer.ensures.ok clean)) c.answered.ensures.rows

pub returns-clause-damaged : goal.returns-clause-damaged
returns-clause-damaged g c shown order shows clean is =
    answer_damaged (λ v. v.items) (IsReadableAs g.R.Stored.kept) order shown (state g.S.Store c.args.tx.now.conn.now).now.trees c.args.table c.query_all-answer.result c.answered.result c.answered.ensures.stopped
    (IfOk-weaker c.query_all-answer.result _ _ (λ v seen. shows.all v.items seen) (c.query_all-answer.ensures.ok clean)) c.answered.ensures.damaged is
