use Rattle.std.proofs.Common.{◌∙◌, ◌≡◌, List, Option, None, Some, ap, inl, inr, subst, sym, ℕ}
use Rattle.std.specs.Option.{option_and_then, option_map}
use Rattle.mx_book.specs.declared.defects.Defect.{Defect}
use Rattle.mx_registers.specs.Names.{tail_at}
use Rattle.mx_base.specs.declared.rows.rows.DeferralRow.{DeferralRow}
use Rattle.mx_row_rules.specs.found.Defects.{defect_said}
use Rattle.mx_lookups.proofs.NumbersProofs.Composed.{answers, at_point, at_points, behind, hands}
use Rattle.mx_lookups.specs.numbers.Given.{DocOfNumber, TailOfNumber}
use Rattle.mx_lookups.proofs.fleet.defect_of_row.Goals as goal

-- the defect that a deferral says, of the aircraft with this registration, by the document of its entry
abbrev said_of : DeferralRow → Option (List ℕ) → List ℕ → Option Defect
said_of row tail doc = option_map (λ t. defect_said doc t row) tail

pub returns-in_err-entered : goal.returns-in_err-entered
returns-in_err-entered g c = record { looks_up = at_points (λ at is. hands c.from_residual.ensures.1 (λ _ _. inl) (at_point c.in_err-entered.ensures.looks_up is)) }

pub returns-in-None : goal.returns-in-None
returns-in-None g c = record {
  looks_up =
      at_points (λ at is.
      let row = c.args.row.now in
      answers (at_point c.in_ok-entered.ensures.looks_up is) (λ book b found. ap (option_and_then (said_of row (tail_at book row.aircraft))) (sym c.in-None.is ∙ found)) (λ trees found. inl (subst (DocOfNumber row.seq trees) c.in-None.is found)));
}

pub returns-in-Some-2 : goal.returns-in-Some-2
returns-in-Some-2 g c = record {
  looks_up =
      at_points (λ at is.
      let row = c.args.row.now in
      let doc = c.in-Some.doc in
      answers (behind (at_point c.in_ok-entered.ensures.looks_up is) (at_point c.in_ok-tail-in-Some.ensures.looks_up is))
      (λ book b both.
      let made : Some c.defect_said.result ≡ said_of row (tail_at book row.aircraft) doc = ap Some c.defect_said.ensures ∙ ap (λ t. said_of row t doc) (sym c.in-Some-2.is ∙ both.1) in
      made ∙ ap (option_and_then (said_of row (tail_at book row.aircraft))) (sym c.in-Some.is ∙ both.0))
      (λ trees both. (doc, c.in-Some-2.tail, subst (DocOfNumber row.seq trees) c.in-Some.is both.0, subst (TailOfNumber row.aircraft trees) c.in-Some-2.is both.1, c.defect_said.ensures)));
}

pub returns-in-None-2 : goal.returns-in-None-2
returns-in-None-2 g c = record {
  looks_up =
      at_points (λ at is.
      let row = c.args.row.now in
      let doc = c.in-Some.doc in
      answers (behind (at_point c.in_ok-entered.ensures.looks_up is) (at_point c.in_ok-tail-in-Some.ensures.looks_up is))
      (λ book b both.
      let made : None ≡ said_of row (tail_at book row.aircraft) doc = ap (λ t. said_of row t doc) (sym c.in-None-2.is ∙ both.1) in
      made ∙ ap (option_and_then (said_of row (tail_at book row.aircraft))) (sym c.in-Some.is ∙ both.0))
      (λ trees both. inr (doc, subst (DocOfNumber row.seq trees) c.in-Some.is both.0, subst (TailOfNumber row.aircraft trees) c.in-None-2.is both.1)));
}

pub returns-in_err-tail-in-Some : goal.returns-in_err-tail-in-Some
returns-in_err-tail-in-Some g c = record {
  looks_up =
      at_points (λ at is.
      let row = c.args.row.now in
      hands c.from_residual-in_err-tail-in-Some.ensures.1 (λ _ trees it. inr (c.in-Some.doc, subst (DocOfNumber row.seq trees) c.in-Some.is it.0, it.1)) (behind (at_point c.in_ok-entered.ensures.looks_up is) (at_point c.in_err-tail-in-Some.ensures.looks_up is)));
}
