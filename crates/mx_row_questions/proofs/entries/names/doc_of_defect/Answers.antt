use Rattle.std.proofs.Common.{◌∙◌, ap}
use Rattle.mx_row_rules.specs.found.Names.{deferred_doc}
use Rattle.mx_row_rules.proofs.FoundProofs.StatedLemmas.{deferral_numbered}
use Rattle.mx_lookups.proofs.NumbersProofs.AnyLemmas.{gives}
use Rattle.mx_lookups.proofs.NumbersProofs.BookRows.{entries_of_number}
use Rattle.mx_lookups.proofs.NumbersProofs.ReadLemmas.{stopped, told}
use Rattle.mx_lookups.proofs.NumbersProofs.TableLemmas.{entries}
use Rattle.mx_row_questions.proofs.entries.names.doc_of_defect.Goals as goal

pub returns-in_err-rows-clause-reads : goal.returns-in_err-rows-clause-reads
returns-in_err-rows-clause-reads g c = stopped _ _ _ _ _ _ c.from_residual.ensures.1 (entries_of_number c.args.number c.in_err-rows.ensures.reads)

pub returns-clause-reads : goal.returns-clause-reads
returns-clause-reads g c = told _ _ _ _ _ _ (λ book b read. c.deferred_doc.ensures ∙ ap deferred_doc (c.deref.ensures.value ∙ read) ∙ deferral_numbered book c.args.number) (entries_of_number c.args.number c.in_ok-rows.ensures.reads)

pub returns-clause-any_rows : goal.returns-clause-any_rows
returns-clause-any_rows g c = gives entries deferred_doc (c.deferred_doc.ensures ∙ ap deferred_doc c.deref.ensures.value) c.in_ok-rows.ensures.reads
