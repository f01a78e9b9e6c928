use Rattle.std.proofs.Common.{◌≡◌, ok_or, rules, subst, sym}
use Rattle.sqlite.specs.Held.{state}
use Rattle.mx_book.specs.declared.verdict.Refusal.TheVariants.{UnknownAircraft}
use Rattle.mx_lists.specs.Report.{report_of}
use Rattle.mx_lookups.proofs.NumbersProofs.Composed.{hands}
use Rattle.mx_lookups.specs.numbers.AnyRows.{ReadsAny}
use Rattle.mx_lookups.specs.numbers.Reads.{Reads}
use Rattle.mx_lookups.specs.numbers.Told.{TellsDamage}
use Rattle.mx_row_judge.specs.Answering.{AnswerListsAs}
use Rattle.mx_row_questions.proofs.ListsProofs.ListStanding.{answer_lists_as}
use Rattle.mx_row_questions.proofs.ListsProofs.ListLemmas.{list_asks, list_kind, list_shares}
use Rattle.mx_row_judge.proofs.ViewLemmas.{asked_any, asked_then, asked_damage}
use Rattle.mx_row_judge.specs.Damage.{ListDamage}
use Rattle.mx_row_judge.specs.View.{Asks}
use Rattle.mx_row_questions.specs.lists.Listing.{ListOf}
use Rattle.mx_row_questions.proofs.lists.listing.list_rows.Goals as goal

pub returns-clause-looks_up : goal.returns-clause-looks_up
returns-clause-looks_up g c =
    let old = c.args.tx.now.conn.now in
    let begun = c.ask_first.new.tx.conn.now in
    let list = c.answered.result in
    let last = c.list_report.new.records.tx.now.conn.now in
    let shares = list_shares g.S.Store AnswerListsAs ListDamage (λ book. report_of book c.args.question.now) _ c.list_report.new.records c.list_report.result c.list_report.ensures.answers in
    let asks =
    subst (Asks g.S.Store AnswerListsAs ListDamage (λ book a. a ≡ ok_or (report_of book c.args.question.now) UnknownAircraft) begun last) (sym c.answered.ensures)
    (list_asks g.S.Store AnswerListsAs ListDamage (λ book. report_of book c.args.question.now) _ c.list_report.new.records c.list_report.result c.list_report.ensures.answers) in
    let given : last ≡ c.tx-1.given.0.conn.now = search rules in
    record {
      same_reference = search rules;
      reads = subst (λ end. Reads (λ book a. a ≡ ok_or (report_of book c.args.question.now) UnknownAircraft) (state g.S.Store old) (state g.S.Store end) list) given
          (asked_then g.S.Store AnswerListsAs ListDamage _ (λ book a. a ≡ ok_or (report_of book c.args.question.now) UnknownAircraft) old begun last _ c.in_ok-ask_first.ensures.looks_up.reads answer_lists_as list asks);
      any_rows = subst (λ end. ReadsAny (ListOf (λ book. report_of book c.args.question.now)) (state g.S.Store old) (state g.S.Store end) list) given
          (asked_any g.S.Store AnswerListsAs ListDamage _ (λ book a. a ≡ ok_or (report_of book c.args.question.now) UnknownAircraft) old begun last _ c.in_ok-ask_first.ensures.looks_up.reads list asks);
      damage = subst (λ end. TellsDamage ListDamage (state g.S.Store old) (state g.S.Store end) list) given
          (asked_damage g.S.Store AnswerListsAs ListDamage _ (λ book a. a ≡ ok_or (report_of book c.args.question.now) UnknownAircraft) old begun last _ c.in_ok-ask_first.ensures.looks_up.reads list asks);
    }

pub returns-clause-kind : goal.returns-clause-kind
returns-clause-kind g c = list_kind c.args.question.now c.list_report.result c.answered.result c.answered.ensures c.list_report.ensures.kind

pub returns-in_err-ask_first-clause-looks_up : goal.returns-in_err-ask_first-clause-looks_up
returns-in_err-ask_first-clause-looks_up g c = hands c.from_residual.ensures.1 (λ name trees it. it) c.in_err-ask_first.ensures.looks_up
