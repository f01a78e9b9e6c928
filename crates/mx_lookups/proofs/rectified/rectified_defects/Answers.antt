use Rattle.std.proofs.Common.{◌∙◌, ℕ, ap, filter}
use Rattle.std.specs.List.{list_any}
use Rattle.mx_registers.specs.Registers.{release_line_rows}
use Rattle.mx_row_rules.specs.found.Defects.{rectifies}
use Rattle.mx_lookups.proofs.NumbersProofs.BookRows.{lines_all_at}
use Rattle.mx_lookups.proofs.NumbersProofs.Composed.{answers, at_points, chosen, hands}
use Rattle.mx_lookups.proofs.NumbersProofs.TableLemmas.{release_lines_at}
use Rattle.mx_lookups.proofs.RectifiedLemmas.{any_found, lines_chosen}
use Rattle.mx_lookups.proofs.rectified.rectified_defects.Goals as goal

pub returns : goal.returns
returns g c = record {
  looks_up =
      at_points (λ at is.
      let made = λ (n : ℕ). c.in_ok-defects_of_lines.ensures n ∙ ap (list_any (rectifies n)) c.deref.ensures.value in
      answers (chosen (release_lines_at is) c.in_ok-lines.ensures.same_reference (lines_all_at is c.in_ok-lines.ensures.reads) c.in_ok-lines.ensures.reads)
      (λ book b found n. made n ∙ ap (list_any (rectifies n)) found ∙ any_found n (release_line_rows book))
      (λ trees are n. (filter (rectifies n) c.in_ok-lines.lines.items, lines_chosen trees n c.in_ok-lines.lines.items are, made n ∙ any_found n c.in_ok-lines.lines.items)));
}

pub returns-in_err-lines : goal.returns-in_err-lines
returns-in_err-lines g c = record { looks_up = at_points (λ at is. hands c.from_residual.ensures.1 (λ _ _ it. it) (chosen (release_lines_at is) c.in_err-lines.ensures.same_reference (lines_all_at is c.in_err-lines.ensures.reads) c.in_err-lines.ensures.reads)) }
