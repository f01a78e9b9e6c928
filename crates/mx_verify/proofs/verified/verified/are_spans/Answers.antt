use Rattle.std.proofs.Common.{sym, subst, ◌∙◌}
use Rattle.mx_book.specs.Book.{IsBook}
use Rattle.mx_registers.proofs.FileProofs.SpansMade.{made_right}
use Rattle.mx_verify.proofs.verified.verified.are_spans.Goals as goal

pub returns : goal.returns
returns c = λ are.
    let e = made_right c.args.book.now c.as_slice.result.now c.as_slice-2.result.now c.in_ok-made.made.items (subst IsBook c.plain.ensures c.len.ensures.book)
    (c.as_slice.ensures.value ∙ are.fittings) (c.as_slice-2.ensures.value ∙ are.removals) c.in_ok-made.ensures in (
      λ h. sym c.as_slice-3.ensures.value ∙ c.are_same.ensures.0 h ∙ c.as_slice-4.ensures.value ∙ e,
      λ h. c.are_same.ensures.1 (c.as_slice-3.ensures.value ∙ h ∙ sym e ∙ sym c.as_slice-4.ensures.value),
    )
