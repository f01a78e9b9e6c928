use Rattle.std.proofs.Common.{◌∙◌, ◌∷◌, [], ap, inr}
use Rattle.mx_book.specs.commands.Act.{Deferred}
use Rattle.mx_registers.specs.Registers.{deferral_row}
use Rattle.mx_row_rules.specs.found.Given as registers
use Rattle.mx_lookups.specs.numbers.Given.{AircraftNumber}
use Rattle.mx_lookups.proofs.NumbersProofs.BookRows.{deferrals_of_number}
use Rattle.mx_lookups.proofs.NumbersProofs.Composed.{behind, chosen, hands}
use Rattle.mx_lookups.proofs.NumbersProofs.TableLemmas.{deferrals}
use Rattle.mx_row_judge.proofs.KnownProofs.KnownLemmas.{rows_tell_by, said}
use Rattle.mx_row_judge.proofs.known.kinds.is_deferral.Goals as goal

pub returns-in_err-rows : goal.returns-in_err-rows
returns-in_err-rows g c = let n = c.args.seq in record { looks_up = hands c.from_residual-in_err-rows.ensures.1 (λ _ _ it. inr it.1) (behind c.in_ok-found.ensures.looks_up.now (chosen deferrals c.in_err-rows.ensures.same_reference (deferrals_of_number _ c.in_err-rows.ensures.reads) c.in_err-rows.ensures.reads)) }

pub returns : goal.returns
returns g c = let n = c.args.seq in let x = c.args.deferral in record { looks_up = said n (Deferred x) (rows_tell_by deferrals registers.deferrals n (AircraftNumber x.tail) (λ i. deferral_row n i x ∷ []) c.in_ok-found.ensures.looks_up.now c.in_ok-rows.ensures.same_reference (deferrals_of_number _ c.in_ok-rows.ensures.reads) c.in_ok-rows.ensures.reads c.deref.ensures.value c.or_zero.ensures (c.from_ref.ensures.value ∙ ap (λ row. row ∷ []) c.deferral_row-row.ensures.row) c.are_same_deferrals.ensures) }
