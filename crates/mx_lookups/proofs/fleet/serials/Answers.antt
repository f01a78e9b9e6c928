use Rattle.std.proofs.Common.{◌∙◌, ap, map}
use Rattle.mx_base.specs.declared.rows.rows.ComponentRow.{ComponentRow}
use Rattle.mx_row_rules.proofs.FoundProofs.PlaceLemmas.{all_serials}
use Rattle.mx_lookups.proofs.NumbersProofs.BookRows.{components_all}
use Rattle.mx_lookups.proofs.NumbersProofs.Composed.{answers, chosen, hands}
use Rattle.mx_lookups.proofs.NumbersProofs.TableLemmas.{components}
use Rattle.mx_lookups.proofs.fleet.serials.Goals as goal

pub returns : goal.returns
returns g c = record {
  looks_up =
      let names = map (λ (row : ComponentRow). row.serial) in
      let made = c.in_ok-serials_said.ensures ∙ ap names c.deref.ensures.value in
      answers (chosen components c.in_ok-rows.ensures.same_reference (components_all c.in_ok-rows.ensures.reads) c.in_ok-rows.ensures.reads) (λ book b found. made ∙ ap names found ∙ all_serials book) (λ _ are. (_, are, made));
}

pub returns-in_err-rows : goal.returns-in_err-rows
returns-in_err-rows g c = record { looks_up = hands c.from_residual.ensures.1 (λ _ _ it. it) (chosen components c.in_err-rows.ensures.same_reference (components_all c.in_err-rows.ensures.reads) c.in_err-rows.ensures.reads) }
