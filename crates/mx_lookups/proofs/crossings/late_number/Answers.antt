use Rattle.std.proofs.Common.{◌∙◌, ap, cond, inl, inr, refl, subst, sym, None, Some}
use Rattle.std.specs.Prelude.{nat_lt}
use Rattle.mx_book.specs.declared.commands.item.Item.TheVariants.{Airframe}
use Rattle.mx_base.specs.declared.rows.rows.TotalRow.{TotalRow}
use Rattle.mx_layout.specs.declared.fault.Table.TheVariants as table
use Rattle.mx_row_rules.proofs.FoundProofs.CrossingLemmas.{late_found, unknown_on_time}
use Rattle.mx_row_rules.specs.found.Crossings.{late_in}
use Rattle.mx_lookups.proofs.LivesProofs.DamageLemmas.{total_unmet}
use Rattle.mx_lookups.proofs.NumbersProofs.Composed.{answers, at_point, at_points, behind, by_first, chosen, hands, none_given, refuses, some_given}
use Rattle.mx_lookups.proofs.NumbersProofs.CrossingRows.{totals_of_at}
use Rattle.mx_lookups.proofs.NumbersProofs.TableLemmas.{totals_at}
use Rattle.mx_lookups.proofs.NumbersProofs.ToldLemmas.{has_none}
use Rattle.mx_lookups.specs.numbers.Given.{AircraftNumber}
use Rattle.mx_lookups.proofs.crossings.late_number.Goals as goal

pub returns-in-Some-late_in : goal.returns-in-Some-late_in
returns-in-Some-late_in g c = record {
  looks_up =
      at_points (λ at is.
      let s = c.args.sector.now in
      let made = c.late_in.ensures ∙ ap (late_in s c.in-Some.number) c.deref.ensures.value in
      answers (behind (at_point c.in_ok-found.ensures.looks_up is) (chosen (totals_at is) c.in_ok-rows-in-Some.ensures.same_reference (totals_of_at is _ c.in_ok-rows-in-Some.ensures.reads) c.in_ok-rows-in-Some.ensures.reads))
      (λ book b both. (let e = sym c.in-Some-late_in.is ∙ made ∙ ap (late_in s c.in-Some.number) both.1 ∙ late_found book s c.in-Some.number b (sym both.0 ∙ c.in-Some.is) in cc))
      (λ _ both. some_given c.in-Some.is both.0 (_, both.1, sym c.in-Some-late_in.is ∙ made)));
}

pub returns-in-Some : goal.returns-in-Some
returns-in-Some g c = record {
  looks_up =
      at_points (λ at is.
      let s = c.args.sector.now in
      let late = λ (row : TotalRow). cond (nat_lt s.off row.clock) (Some c.in-Some.number) None in
      let made = c.late_in.ensures ∙ ap (late_in s c.in-Some.number) c.deref.ensures.value in
      refuses table.Total2 (behind (at_point c.in_ok-found.ensures.looks_up is) (chosen (totals_at is) c.in_ok-rows-in-Some.ensures.same_reference (totals_of_at is _ c.in_ok-rows-in-Some.ensures.reads) c.in_ok-rows-in-Some.ensures.reads))
      (λ book b both.
      let e = sym c.in-None-late_in.is ∙ made ∙ ap (late_in s c.in-Some.number) both.1 ∙ late_found book s c.in-Some.number b (sym both.0 ∙ c.in-Some.is) in
      absurd cc)
      (λ trees both. total_unmet _ (Airframe s.tail) c.in-Some.number late (subst (AircraftNumber s.tail trees) c.in-Some.is both.0) (_, both.1, sym c.in-None-late_in.is ∙ made))
      (λ trees both. inr (_, by_first (AircraftNumber _) c.in-Some.is both.0, (inr (refl, has_none late (_, both.1, sym c.in-None-late_in.is ∙ made))))));
}

pub returns : goal.returns
returns g c = record { looks_up = at_points (λ at is. answers (at_point c.in_ok-found.ensures.looks_up is) (λ book b found. sym (unknown_on_time book c.args.sector.now (sym found ∙ c.in-None.is))) (λ _ found. none_given c.in-None.is found refl)) }

pub returns-in_err-rows-in-Some : goal.returns-in_err-rows-in-Some
returns-in_err-rows-in-Some g c = record {
  looks_up =
      at_points (λ at is. hands c.from_residual-in_err-rows-in-Some.ensures.1 (λ _ _ it. inr (_, by_first (AircraftNumber _) c.in-Some.is it.0, (inl it.1)))
      (behind (at_point c.in_ok-found.ensures.looks_up is) (chosen (totals_at is) c.in_err-rows-in-Some.ensures.same_reference (totals_of_at is _ c.in_err-rows-in-Some.ensures.reads) c.in_err-rows-in-Some.ensures.reads)));
}
