use Rattle.std.proofs.Common.{◌∙◌, ap}
use Rattle.mx_row_rules.proofs.FoundProofs.OpenDefectLemmas.{doc_found}
use Rattle.mx_row_rules.specs.found.Names.{doc_in}
use Rattle.mx_lookups.proofs.NumbersProofs.BookRows.{entries_of_number_at}
use Rattle.mx_lookups.proofs.NumbersProofs.Composed.{at_points, chosen, hands, rows_give}
use Rattle.mx_lookups.proofs.NumbersProofs.TableLemmas.{entries_at}
use Rattle.mx_lookups.proofs.lists.doc_of_number.Goals as goal

pub returns : goal.returns
returns g c = record { looks_up = at_points (λ at is. rows_give (entries_at is) doc_in c.in_ok-rows.ensures.same_reference (entries_of_number_at is _ c.in_ok-rows.ensures.reads) c.in_ok-rows.ensures.reads (c.doc_in.ensures ∙ ap doc_in c.deref.ensures.value) (λ book b found. ap doc_in found ∙ doc_found book c.args.number)) }

pub returns-in_err-rows : goal.returns-in_err-rows
returns-in_err-rows g c = record { looks_up = at_points (λ at is. hands c.from_residual.ensures.1 (λ _ _ it. it) (chosen (entries_at is) c.in_err-rows.ensures.same_reference (entries_of_number_at is _ c.in_err-rows.ensures.reads) c.in_err-rows.ensures.reads)) }
