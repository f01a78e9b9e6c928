use Rattle.std.proofs.Common.{◌≡◌, rules, subst}
use Rattle.sqlite.specs.Held.{state}
use Rattle.mx_book.specs.Judge.{judge}
use Rattle.mx_lookups.specs.numbers.AnyRows.{ReadsAny}
use Rattle.mx_lookups.specs.numbers.Reads.{Reads}
use Rattle.mx_lookups.specs.numbers.Told.{TellsDamage}
use Rattle.mx_row_judge.specs.Answering.{AnswerAs, VerdictOf}
use Rattle.mx_row_judge.proofs.StandingLemmas.{answer_as}
use Rattle.mx_row_judge.proofs.ViewLemmas.{asked_any, asked_then, asked_damage, asks_by, shares_by}
use Rattle.mx_lookups.proofs.NumbersProofs.ToldLemmas.{handed}
use Rattle.mx_row_judge.specs.Damage.{by_entry_count, JudgeDamage}
use Rattle.mx_row_judge.proofs.judging.judge_by_rows.Goals as goal

pub returns : goal.returns
returns g c =
    let old = c.args.tx.now.conn.now in
    let verdict = c.verdict_on.result in
    let last = c.verdict_on.new.records.tx.now.conn.now in
    let shares = shares_by g.S.Store AnswerAs JudgeDamage (λ book. judge book c.args.command.now) _ c.verdict_on.new.records verdict c.verdict_on.ensures in
    let asks = asks_by g.S.Store AnswerAs JudgeDamage (λ book. judge book c.args.command.now) _ c.verdict_on.new.records verdict c.verdict_on.ensures in
    let given : last ≡ c.tx-1.given.0.conn.now = search rules in
    record {
      looks_up = record {
        same_reference = search rules;
        reads = subst (λ end. Reads (λ book verdict. verdict ≡ judge book c.args.command.now) (state g.S.Store old) (state g.S.Store end) verdict) given
            (asked_then g.S.Store AnswerAs JudgeDamage _ (λ book verdict. verdict ≡ judge book c.args.command.now) old c.entry_count.new.tx.conn.now last _ c.in_ok-entry_count.ensures.looks_up.reads answer_as verdict asks);
        any_rows = subst (λ end. ReadsAny (VerdictOf c.args.command.now) (state g.S.Store old) (state g.S.Store end) verdict) given
            (asked_any g.S.Store AnswerAs JudgeDamage _ (λ book verdict. verdict ≡ judge book c.args.command.now) old c.entry_count.new.tx.conn.now last _ c.in_ok-entry_count.ensures.looks_up.reads verdict asks);
        damage = subst (λ end. TellsDamage JudgeDamage (state g.S.Store old) (state g.S.Store end) verdict) given
            (asked_damage g.S.Store AnswerAs JudgeDamage _ (λ book verdict. verdict ≡ judge book c.args.command.now) old c.entry_count.new.tx.conn.now last _ c.in_ok-entry_count.ensures.looks_up.reads verdict asks);
      };
    }

pub returns-in_err-entry_count : goal.returns-in_err-entry_count
returns-in_err-entry_count g c = record {
  looks_up = record {
    same_reference = search rules;
    reads = search rules;
    any_rows = search rules;
    damage = handed (λ name trees it. by_entry_count it) c.from_residual.ensures.1 c.in_err-entry_count.ensures.looks_up.damage;
  };
}
