use Rattle.std.proofs.Common.{◌∙◌, ◌≡◌, None, Some, ap, cond, false, inl, inr, sym, true}
use Rattle.mx_row_rules.specs.found.Defects.{is_rectified_at, is_rectified_in}
use Rattle.mx_row_rules.specs.found.Names.{doc_at}
use Rattle.mx_lookups.proofs.NumbersProofs.BookRows.{lines_of_defect_at}
use Rattle.mx_lookups.proofs.NumbersProofs.Composed.{answers, at_point, at_points, behind, chosen, hands}
use Rattle.mx_lookups.proofs.NumbersProofs.TableLemmas.{release_lines_at}
use Rattle.mx_lookups.proofs.lists.doc_if_open.Goals as goal

pub returns-in_err-lines : goal.returns-in_err-lines
returns-in_err-lines g c = record { looks_up = at_points (λ at is. hands c.from_residual.ensures.1 (λ _ _. inl) (chosen (release_lines_at is) c.in_err-lines.ensures.same_reference (lines_of_defect_at is _ c.in_err-lines.ensures.reads) c.in_err-lines.ensures.reads)) }

pub returns-then-is_rectified_in : goal.returns-then-is_rectified_in
returns-then-is_rectified_in g c = record {
  looks_up =
      at_points (λ at is.
      let made = sym c.if-is_rectified_in.true ∙ c.is_rectified_in.ensures ∙ ap is_rectified_in c.deref.ensures.value in
      answers (chosen (release_lines_at is) c.in_ok-lines.ensures.same_reference (lines_of_defect_at is _ c.in_ok-lines.ensures.reads) c.in_ok-lines.ensures.reads)
      (λ book b found.
      let rectified : is_rectified_at book c.args.defect ≡ true = sym (made ∙ ap is_rectified_in found) in
      sym (ap (λ t. cond t None (Some (doc_at book c.args.defect))) rectified))
      (λ _ are. (_, are, made)));
}

pub returns-in_err-doc : goal.returns-in_err-doc
returns-in_err-doc g c = record { looks_up = at_points (λ at is. hands c.from_residual-in_err-doc.ensures.1 (λ _ _ it. inr ((_, it.0, sym c.if-is_rectified_in.false ∙ c.is_rectified_in.ensures ∙ ap is_rectified_in c.deref.ensures.value), it.1)) (behind (chosen (release_lines_at is) c.in_ok-lines.ensures.same_reference (lines_of_defect_at is _ c.in_ok-lines.ensures.reads) c.in_ok-lines.ensures.reads) (at_point c.in_err-doc.ensures.looks_up is))) }

pub returns : goal.returns
returns g c = record {
  looks_up =
      at_points (λ at is.
      let made = sym c.if-is_rectified_in.false ∙ c.is_rectified_in.ensures ∙ ap is_rectified_in c.deref.ensures.value in
      answers (behind (chosen (release_lines_at is) c.in_ok-lines.ensures.same_reference (lines_of_defect_at is _ c.in_ok-lines.ensures.reads) c.in_ok-lines.ensures.reads) (at_point c.in_ok-doc.ensures.looks_up is))
      (λ book b both.
      let left : is_rectified_at book c.args.defect ≡ false = sym (made ∙ ap is_rectified_in both.0) in
      ap Some both.1 ∙ sym (ap (λ t. cond t None (Some (doc_at book c.args.defect))) left))
      (λ _ both. ((_, both.0, made), both.1)));
}
