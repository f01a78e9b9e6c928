use Rattle.std.proofs.Common.{◌∙◌, ◌∷◌, [], ap}
use Rattle.mx_book.specs.commands.Act.{Listed}
use Rattle.mx_row_rules.specs.found.Given as registers
use Rattle.mx_lookups.proofs.NumbersProofs.BookRows.{components_of_number}
use Rattle.mx_lookups.proofs.NumbersProofs.Composed.{chosen, hands}
use Rattle.mx_lookups.proofs.NumbersProofs.TableLemmas.{components}
use Rattle.mx_row_judge.proofs.KnownProofs.KnownLemmas.{rows_tell, said}
use Rattle.mx_row_judge.proofs.known.kinds.is_component.Goals as goal

pub returns-in_err-rows : goal.returns-in_err-rows
returns-in_err-rows g c = record { looks_up = hands c.from_residual.ensures.1 (λ _ _ it. it) (chosen components c.in_err-rows.ensures.same_reference (components_of_number _ c.in_err-rows.ensures.reads) c.in_err-rows.ensures.reads) }

pub returns : goal.returns
returns g c = record { looks_up = said c.args.seq (Listed c.args.component) (rows_tell components registers.components c.args.seq c.in_ok-rows.ensures.same_reference (components_of_number _ c.in_ok-rows.ensures.reads) c.in_ok-rows.ensures.reads c.deref.ensures.value (c.from_ref.ensures.value ∙ ap (λ row. row ∷ []) c.component_row-row.ensures.row) c.are_same_components.ensures) }
