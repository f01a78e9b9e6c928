use Rattle.std.proofs.Common.{◌∙◌, ◌∷◌, [], ap, inr}
use Rattle.mx_book.specs.commands.Act.{Extended}
use Rattle.mx_registers.specs.Registers.{extension_row}
use Rattle.mx_row_rules.specs.found.Given as registers
use Rattle.mx_lookups.specs.numbers.Given.{DefectNumber}
use Rattle.mx_lookups.proofs.NumbersProofs.BookRows.{extensions_of_number}
use Rattle.mx_lookups.proofs.NumbersProofs.Composed.{behind, chosen, hands}
use Rattle.mx_lookups.proofs.NumbersProofs.TableLemmas.{extensions}
use Rattle.mx_row_judge.proofs.KnownProofs.KnownLemmas.{rows_tell_by, said}
use Rattle.mx_row_judge.proofs.known.kinds.is_extension.Goals as goal

pub returns-in_err-rows : goal.returns-in_err-rows
returns-in_err-rows g c = let n = c.args.seq in record { looks_up = hands c.from_residual-in_err-rows.ensures.1 (λ _ _ it. inr it.1) (behind c.in_ok-found.ensures.looks_up.now (chosen extensions c.in_err-rows.ensures.same_reference (extensions_of_number _ c.in_err-rows.ensures.reads) c.in_err-rows.ensures.reads)) }

pub returns : goal.returns
returns g c = let n = c.args.seq in let x = c.args.extension in record { looks_up = said n (Extended x) (rows_tell_by extensions registers.extensions n (DefectNumber x.defect) (λ i. extension_row n i x ∷ []) c.in_ok-found.ensures.looks_up.now c.in_ok-rows.ensures.same_reference (extensions_of_number _ c.in_ok-rows.ensures.reads) c.in_ok-rows.ensures.reads c.deref.ensures.value c.or_zero.ensures (c.from_ref.ensures.value ∙ ap (λ row. row ∷ []) c.extension_row-row.ensures.row) c.are_same_extensions.ensures) }
