use Rattle.std.proofs.Common.{◌∙◌, ◌∷◌, [], ap, inr}
use Rattle.mx_book.specs.commands.Act.{Opened}
use Rattle.mx_registers.specs.Registers.{opening_row}
use Rattle.mx_row_rules.specs.found.Given as registers
use Rattle.mx_lookups.specs.numbers.Given.{ItemNumber}
use Rattle.mx_lookups.proofs.NumbersProofs.BookRows.{openings_of_number}
use Rattle.mx_lookups.proofs.NumbersProofs.Composed.{behind, chosen, hands}
use Rattle.mx_lookups.proofs.NumbersProofs.TableLemmas.{openings}
use Rattle.mx_row_judge.proofs.KnownProofs.KnownLemmas.{rows_tell_by, said}
use Rattle.mx_row_judge.proofs.known.kinds.is_opening.Goals as goal

pub returns-in_err-rows : goal.returns-in_err-rows
returns-in_err-rows g c = let n = c.args.seq in record { looks_up = hands c.from_residual-in_err-rows.ensures.1 (λ _ _ it. inr it.1) (behind c.in_ok-found.ensures.looks_up.now (chosen openings c.in_err-rows.ensures.same_reference (openings_of_number _ c.in_err-rows.ensures.reads) c.in_err-rows.ensures.reads)) }

pub returns : goal.returns
returns g c = let n = c.args.seq in let x = c.args.opening in record { looks_up = said n (Opened x) (rows_tell_by openings registers.openings n (ItemNumber x.item) (λ i. opening_row n i x ∷ []) c.in_ok-found.ensures.looks_up.now c.in_ok-rows.ensures.same_reference (openings_of_number _ c.in_ok-rows.ensures.reads) c.in_ok-rows.ensures.reads c.deref.ensures.value c.or_zero.ensures (c.from_ref.ensures.value ∙ ap (λ row. row ∷ []) c.opening_row-row.ensures.row) c.are_same_openings.ensures) }
