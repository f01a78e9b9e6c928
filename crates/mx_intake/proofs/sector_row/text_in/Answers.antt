use Rattle.std.proofs.Common.{◌∙◌, ap, sym, ℕ, List, Option, Some}
use Rattle.std.specs.Prelude.{option_and_then}
use Rattle.mx_intake.specs.Sectors.{text_of_field}
use Rattle.mx_intake.proofs.RowsLemmas.{text_of_field-other, text_of_field-text}
use Rattle.mx_intake.proofs.sector_row.text_in.Goals as goal

pub returns-in-Ok : goal.returns-in-Ok
returns-in-Ok c =
    ap Some c.in-Ok.ensures.cases.0 ∙ sym (text_of_field-text c.in_ok-get.field-0.now c.in-Ok.ensures.cases.1)
    ∙ ap (λ (field : Option (List ℕ)). option_and_then text_of_field field) c.in_ok-get.ensures.value

pub returns-in-Err : goal.returns-in-Err
returns-in-Err c =
    sym (text_of_field-other c.in_ok-get.field-0.now c.in-Err.ensures.cases.0)
    ∙ ap (λ (field : Option (List ℕ)). option_and_then text_of_field field) c.in_ok-get.ensures.value
