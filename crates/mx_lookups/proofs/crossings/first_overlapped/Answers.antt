use Rattle.std.proofs.Common.{◌∙◌, ap, ap₂, inl, inr, map, refl, subst, sym}
use Rattle.mx_base.specs.declared.rows.rows.Sector2Row.{Sector2Row}
use Rattle.mx_row_rules.proofs.FoundProofs.CrossingLemmas.{no_overlap, overlap_found}
use Rattle.mx_row_rules.specs.found.Crossings.{overlapped_in}
use Rattle.mx_lookups.proofs.NumbersProofs.Composed.{answers, at_point, at_points, behind, by_first, chosen, hands, none_given, some_given}
use Rattle.mx_lookups.proofs.NumbersProofs.CrossingRows.{near_from, near_held, near_read}
use Rattle.mx_lookups.proofs.NumbersProofs.TableLemmas.{sectors_at}
use Rattle.mx_lookups.specs.numbers.Crossings.{LateNumber}
use Rattle.mx_lookups.proofs.crossings.first_overlapped.Goals as goal

pub returns-in_ok-rows-in-Some : goal.returns-in_ok-rows-in-Some
returns-in_ok-rows-in-Some g c = record {
  looks_up =
      at_points (λ at is.
      let s = c.args.sector.now in
      let reads = near_from c.in-Some.number _ s c.earliest_overlapping-earliest.ensures _ _ _ c.in_ok-rows-in-Some.ensures.reads in
      let made = c.overlapped_in.ensures ∙ ap (λ rows. overlapped_in s (map (λ (row : Sector2Row). row.sector) rows)) c.deref.ensures.value in
      answers (behind (at_point c.in_ok-late.ensures.looks_up is) (chosen (sectors_at is) c.in_ok-rows-in-Some.ensures.same_reference (near_read is c.in-Some.number s _ _ _ reads) (near_held c.in-Some.number s _ _ _ reads)))
      (λ book b both. made ∙ ap (overlapped_in s) both.1 ∙ overlap_found book s c.in-Some.number b (sym both.0 ∙ c.in-Some.is))
      (λ _ both. some_given c.in-Some.is both.0 (_, both.1, made)));
}

pub returns-in-None : goal.returns-in-None
returns-in-None g c = record { looks_up = at_points (λ at is. answers (at_point c.in_ok-late.ensures.looks_up is) (λ book b late. sym (no_overlap book c.args.sector.now b (sym late ∙ c.in-None.is))) (λ _ late. none_given c.in-None.is late refl)) }

pub returns-in_err-rows-in-Some : goal.returns-in_err-rows-in-Some
returns-in_err-rows-in-Some g c = record {
  looks_up =
      at_points (λ at is.
      let s = c.args.sector.now in
      let reads = near_from c.in-Some.number _ s c.earliest_overlapping-earliest.ensures _ _ _ c.in_err-rows-in-Some.ensures.reads in
      hands c.from_residual-in_err-rows-in-Some.ensures.1 (λ _ _ it. inr (_, by_first (LateNumber s) c.in-Some.is it.0, it.1))
      (behind (at_point c.in_ok-late.ensures.looks_up is) (chosen (sectors_at is) c.in_err-rows-in-Some.ensures.same_reference (near_read is c.in-Some.number s _ _ _ reads) (near_held c.in-Some.number s _ _ _ reads))));
}

pub returns-in_err-late : goal.returns-in_err-late
returns-in_err-late g c = record { looks_up = at_points (λ at is. hands c.from_residual.ensures.1 (λ _ _. inl) (at_point c.in_err-late.ensures.looks_up is)) }
