use Rattle.std.proofs.Common.{List, subst, ◌∙◌}
use Rattle.std.specs.Prelude.{IfOk}
use Rattle.mx_base.specs.declared.rows.rows.SectorRow.{SectorRow}
use Rattle.mx_base.specs.declared.rows.rows.SpanRow.{SpanRow}
use Rattle.mx_book.specs.Book.{IsBook}
use Rattle.mx_registers.specs.Registers.{sector_rows}
use Rattle.mx_registers.proofs.FileProofs.SpansMade.{made_right}
use Rattle.mx_indexed_book.specs.moments.Flown.{ArePermuted}
use Rattle.mx_verify.proofs.merged.kept_book.moments_of.Goals as goal

pub returns : goal.returns
returns c =
    let book = c.args.merged.now in
    let b = subst IsBook (c.plain.ensures ∙ c.book.ensures) c.len.ensures.book in
    let spans = c.as_slice-4.ensures.value ∙ made_right book c.as_slice.result.now c.as_slice-2.result.now c.in_ok-spans.spans.items b (c.as_slice.ensures.value ∙ c.requires.fittings) (c.as_slice-2.ensures.value ∙ c.requires.removals) c.in_ok-spans.ensures in
    let sectors = c.as_slice-3.ensures.value ∙ c.requires.sectors in
    subst (λ (ys : List SpanRow). IfOk c.of.result (ArePermuted (sector_rows book) ys)) spans (subst (λ (xs : List SectorRow). IfOk c.of.result (ArePermuted xs c.as_slice-4.result.now)) sectors c.of.ensures)
