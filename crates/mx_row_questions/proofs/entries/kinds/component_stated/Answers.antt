use Rattle.std.proofs.Common.{Some, ap, ◌∙◌}
use Rattle.std.specs.Prelude.{slice_get}
use Rattle.std.specs.Option.{option_map}
use Rattle.mx_registers.specs.Merge.{component_said}
use Rattle.mx_row_rules.specs.found.Stated.{component_stated}
use Rattle.mx_lookups.proofs.NumbersProofs.AnyLemmas.{gives}
use Rattle.mx_lookups.proofs.NumbersProofs.BookRows.{components_of_number}
use Rattle.mx_lookups.proofs.NumbersProofs.ReadLemmas.{stopped, told}
use Rattle.mx_lookups.proofs.NumbersProofs.TableLemmas.{components}
use Rattle.mx_row_questions.proofs.entries.kinds.component_stated.Goals as goal

pub returns-in_err-rows-clause-reads : goal.returns-in_err-rows-clause-reads
returns-in_err-rows-clause-reads g c = stopped _ _ _ _ _ _ c.from_residual.ensures.1 (components_of_number c.args.seq c.in_err-rows.ensures.reads)

pub returns-in-Some-clause-reads : goal.returns-in-Some-clause-reads
returns-in-Some-clause-reads g c =
    told _ _ _ _ _ _ (λ book b read. ap Some c.body_of_component.ensures ∙ ap (option_map component_said) (c.in-Some.ensures.value ∙ ap (λ l. slice_get l 0) (c.deref.ensures.value ∙ read))) (components_of_number c.args.seq c.in_ok-rows.ensures.reads)

pub returns-clause-reads : goal.returns-clause-reads
returns-clause-reads g c = told _ _ _ _ _ _ (λ book b read. ap (option_map component_said) (c.in-None.ensures.value ∙ ap (λ l. slice_get l 0) (c.deref.ensures.value ∙ read))) (components_of_number c.args.seq c.in_ok-rows.ensures.reads)

pub returns-in-Some-clause-any_rows : goal.returns-in-Some-clause-any_rows
returns-in-Some-clause-any_rows g c =
    record { found = (gives components component_stated (ap Some c.body_of_component.ensures ∙ ap (option_map component_said) (c.in-Some.ensures.value ∙ ap (λ l. slice_get l 0) c.deref.ensures.value)) c.in_ok-rows.ensures.reads).found }

pub returns-clause-any_rows : goal.returns-clause-any_rows
returns-clause-any_rows g c = record { found = (gives components component_stated (ap (option_map component_said) (c.in-None.ensures.value ∙ ap (λ l. slice_get l 0) c.deref.ensures.value)) c.in_ok-rows.ensures.reads).found }
