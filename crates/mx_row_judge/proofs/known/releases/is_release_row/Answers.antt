use Rattle.std.proofs.Common.{◌∙◌, ◌∷◌, [], ap, inr}
use Rattle.mx_book.specs.Judge.{item_at}
use Rattle.mx_registers.specs.Registers.{release_row}
use Rattle.mx_row_rules.specs.found.Given as registers
use Rattle.mx_lookups.specs.numbers.Given.{ItemNumber}
use Rattle.mx_lookups.proofs.NumbersProofs.BookRows.{releases_of_number}
use Rattle.mx_lookups.proofs.NumbersProofs.Composed.{behind, chosen, hands}
use Rattle.mx_lookups.proofs.NumbersProofs.TableLemmas.{releases}
use Rattle.mx_row_judge.proofs.KnownProofs.KnownLemmas.{rows_tell_by}
use Rattle.mx_row_judge.proofs.known.releases.is_release_row.Goals as goal

pub returns-in_err-rows : goal.returns-in_err-rows
returns-in_err-rows g c = let n = c.args.seq in record { looks_up = hands c.from_residual-in_err-rows.ensures.1 (λ _ _ it. inr it.1) (behind c.in_ok-found.ensures.looks_up (chosen releases c.in_err-rows.ensures.same_reference (releases_of_number _ c.in_err-rows.ensures.reads) c.in_err-rows.ensures.reads)) }

pub returns : goal.returns
returns g c = let n = c.args.seq in let x = c.args.release in record { looks_up = rows_tell_by releases registers.releases n (ItemNumber (item_at x.place)) (λ i. release_row n i x ∷ []) c.in_ok-found.ensures.looks_up c.in_ok-rows.ensures.same_reference (releases_of_number _ c.in_ok-rows.ensures.reads) c.in_ok-rows.ensures.reads c.deref.ensures.value c.or_zero.ensures (c.from_ref.ensures.value ∙ ap (λ row. row ∷ []) c.release_row-row.ensures.row) c.are_same_releases.ensures }
