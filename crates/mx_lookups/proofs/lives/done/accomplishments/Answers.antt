use Rattle.std.proofs.Common.{◌∙◌, [], ap, inr, refl, sym}
use Rattle.std.specs.Option.{option_map_or}
use Rattle.mx_registers.specs.late.Done.{done_rows_of}
use Rattle.mx_row_rules.proofs.FoundProofs.ThereLemmas.{item_numbered}
use Rattle.mx_lookups.proofs.LivesProofs.DoneLookups.{done_by_task}
use Rattle.mx_lookups.proofs.NumbersProofs.Composed.{answers, behind, by_first, chosen_in, implies, none_given, some_given}
use Rattle.mx_lookups.proofs.NumbersProofs.LaterTables.{done_in}
use Rattle.mx_lookups.specs.numbers.Given.{ItemNumber}
use Rattle.mx_lookups.proofs.lives.done.accomplishments.Goals as goal

pub returns-in-Some : goal.returns-in-Some
returns-in-Some g c = record {
  looks_up =
      let item = c.args.item.now in
      let id = c.args.id.now in
      implies c.done3_by_item_and_task.result
      (λ book v b both.
      let number = sym both.0 ∙ c.in-Some.is in
      both.1 item (item_numbered book item c.in-Some.number number) ∙ sym (ap (λ o. option_map_or (λ n. done_rows_of book n item id) o []) number))
      (λ _ v both. some_given c.in-Some.is both.0 (_, both.1, refl))
      (λ _ _ it. inr (_, by_first (ItemNumber _) c.in-Some.is it.0, it.1))
      (behind c.in_ok-found.ensures.looks_up.later (chosen_in done_in c.done3_by_item_and_task.ensures.same_reference (done_by_task c.in-Some.number id _ _ _ c.done3_by_item_and_task.ensures.reads) c.done3_by_item_and_task.ensures.reads));
}

pub returns-in-None : goal.returns-in-None
returns-in-None g c = record {
  looks_up =
      let item = c.args.item.now in
      let id = c.args.id.now in
      answers c.in_ok-found.ensures.looks_up.later
      (λ book b found. c.new.ensures.items ∙ sym (ap (λ o. option_map_or (λ n. done_rows_of book n item id) o []) (sym found ∙ c.in-None.is)))
      (λ _ found. none_given c.in-None.is found c.new.ensures.items);
}
