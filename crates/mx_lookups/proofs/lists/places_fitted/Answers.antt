use Rattle.std.proofs.Common.{◌≡◌, ◌∙◌, ℕ, pos, List, ap, filter, refl, subst, sym, true, inl, inr, rules}
use Rattle.std.specs.Prelude.{is_some}
use Rattle.std.specs.Option.{option_map}
use Rattle.sqlite.specs.declared.types.Value.TheVariants.{Int}
use Rattle.mx_book.specs.commands.Act.{Entry}
use Rattle.mx_base.specs.declared.rows.rows.SpanRow.{SpanRow}
use Rattle.mx_registers.specs.kept.Spans.{span_rows}
use Rattle.mx_row_rules.specs.found.Spans.{is_open_at, place_said}
use Rattle.mx_row_rules.proofs.FoundProofs.FittedLemmas.{components_there}
use Rattle.mx_layout.specs.declared.fault.Table.TheVariants as table
use Rattle.mx_layout.specs.kept.Cells.{kept_span2}
use Rattle.mx_table_rows.specs.chosen.Choices.{is_open}
use Rattle.mx_lookups.specs.numbers.Given.{PlaceSaid, SerialOfNumber}
use Rattle.mx_lookups.proofs.NumbersProofs.BookRows.{open_spans_at}
use Rattle.mx_lookups.proofs.DamageLemmas.{component_unmet}
use Rattle.mx_lookups.proofs.NumbersProofs.TableLemmas.{spans}
use Rattle.mx_lookups.proofs.WalkLemmas.{missing, said_more, walk_begun, walk_ended, walk_said, walk_starved, walk_stopped, told_each}
use Rattle.mx_lookups.proofs.NumbersProofs.ReadLemmas.{stopped}
use Rattle.mx_lookups.proofs.NumbersProofs.ToldLemmas.{handed, has_none, told_as, told_here, unread}
use Rattle.mx_lookups.specs.numbers.Told.{PlaceDamage}
use Rattle.mx_lookups.proofs.lists.places_fitted.Goals as goal

abbrev open_rows : ℕ → List Entry → List SpanRow
open_rows n book = filter (is_open_at n) (span_rows book)

abbrev HasPlace : List Entry → SpanRow → Type 0
HasPlace book row = is_some (place_said book row) ≡ true

pub loop-row-init : goal.loop-row-init
loop-row-init g c = record {
  same_reference = c.in_ok-rows.ensures.same_reference;
  walks = walk_begun kept_span2 (open_rows c.args.aircraft) place_said HasPlace (is_open 2 (Int (pos c.args.aircraft))) PlaceSaid _ _ _ _ _ _ c.new-places.ensures.items c.as_slice-rest.ensures.value (λ book b. components_there book c.args.aircraft b) spans c.in_ok-rows.ensures.reads
      (open_spans_at c.args.aircraft c.in_ok-rows.ensures.reads);
}

pub loop-row-preserved : goal.loop-row-preserved
loop-row-preserved g c =
    let row = c.in-Some.row.now in
    record {
      same_reference = c.in_ok-found.ensures.looks_up.same_reference ∙ c.loop-row.invariant.same_reference;
      walks = said_more kept_span2 (open_rows c.args.aircraft) place_said HasPlace (is_open 2 (Int (pos c.args.aircraft))) PlaceSaid _ _ _ _ _ c.in-Some.later.now row c.loop-row.invariant.walks c.in-Some.ensures.cases.0 _ (SerialOfNumber row.component) c.in_ok-found.found
          (row.position, c.in-Some-found.serial) _ c.in_ok-push-in-Some-found.ensures.items (λ book found. ap (option_map {U = List ℕ × List ℕ} (λ serial. (row.position, serial))) (sym found ∙ c.in-Some-found.is))
          (λ trees any. (c.in-Some-found.serial, subst (SerialOfNumber row.component trees) c.in-Some-found.is any, refl)) c.in_ok-found.ensures.looks_up.reads c.in_ok-found.ensures.looks_up.any_rows;
    }

pub returns-in_err-rows : goal.returns-in_err-rows
returns-in_err-rows g c = record {
  looks_up = record {
    same_reference = search rules;
    reads = stopped _ _ _ _ _ _ c.from_residual.ensures.1 (open_spans_at c.args.aircraft c.in_err-rows.ensures.reads);
    any_rows = search rules;
    damage = told_as (λ _ _. inl) (unread spans c.from_residual.ensures.1 c.in_err-rows.ensures.reads);
  };
}

pub returns-in-None : goal.returns-in-None
returns-in-None g c = record {
  looks_up = record {
    same_reference = search rules;
    reads =
        let row = c.in-Some.row.now in
        let found = c.in_ok-found.ensures.looks_up in
        missing kept_span2 (open_rows c.args.aircraft) place_said HasPlace (is_open 2 (Int (pos c.args.aircraft))) PlaceSaid _ _ _ _ _ c.in-Some.later.now row c.loop-row.invariant.walks c.in-Some.ensures.cases.0 _ _ (SerialOfNumber row.component) c.in_ok-found.found table.Span2
        (λ book there said. (let e = sym there ∙ ap is_some (ap (option_map {U = List ℕ × List ℕ} (λ serial. (row.position, serial))) (sym said ∙ c.in-None.is)) in absurd cc))
        (λ trees kept any. component_unmet trees row kept (subst (SerialOfNumber row.component trees) c.in-None.is any)) found.reads found.any_rows;
    any_rows = search rules;
    damage =
        let row = c.in-Some.row.now in
        let found = c.in_ok-found.ensures.looks_up in
        told_each kept_span2 (open_rows c.args.aircraft) place_said HasPlace (is_open 2 (Int (pos c.args.aircraft))) PlaceSaid _ _ _ _ _ c.in-Some.later.now row c.loop-row.invariant.walks c.in-Some.ensures.cases.0 (λ row. PlaceDamage row.component) _ found.reads.within
        (told_here table.Span2 (λ clean has. inr (refl, has_none (λ r. r.serial) (subst (SerialOfNumber row.component _) c.in-None.is (found.any_rows.found clean has)))));
  };
}

pub returns-in_err-found : goal.returns-in_err-found
returns-in_err-found g c = record {
  looks_up = record {
    same_reference = search rules;
    reads = walk_stopped kept_span2 (open_rows c.args.aircraft) place_said HasPlace (is_open 2 (Int (pos c.args.aircraft))) PlaceSaid _ _ _ _ _ c.loop-row.invariant.walks _ _ _ _ c.from_residual-in_err-found.ensures.1 c.in_err-found.ensures.looks_up.reads;
    any_rows = search rules;
    damage =
        let found = c.in_err-found.ensures.looks_up in
        told_each kept_span2 (open_rows c.args.aircraft) place_said HasPlace (is_open 2 (Int (pos c.args.aircraft))) PlaceSaid _ _ _ _ _ c.in-Some.later.now c.in-Some.row.now c.loop-row.invariant.walks c.in-Some.ensures.cases.0 (λ row. PlaceDamage row.component) _ found.reads.within (handed (λ _ _. inl) c.from_residual-in_err-found.ensures.1 found.damage);
  };
}

pub returns : goal.returns
returns g c = record {
  looks_up = record {
    same_reference = search rules;
    reads = walk_ended kept_span2 (open_rows c.args.aircraft) place_said HasPlace (is_open 2 (Int (pos c.args.aircraft))) PlaceSaid (λ v. v.items) _ _ _ _ c.in_default.ensures.cases c.loop-row.invariant.walks;
    any_rows = walk_said kept_span2 (open_rows c.args.aircraft) place_said HasPlace (is_open 2 (Int (pos c.args.aircraft))) PlaceSaid (λ v. v.items) _ _ _ _ c.in_default.ensures.cases c.loop-row.invariant.walks;
    damage = search rules;
  };
}

pub returns-in_err-push-in-Some-found : goal.returns-in_err-push-in-Some-found
returns-in_err-push-in-Some-found g c = record {
  looks_up = record {
    same_reference = search rules;
    reads = walk_starved kept_span2 (open_rows c.args.aircraft) place_said HasPlace (is_open 2 (Int (pos c.args.aircraft))) PlaceSaid _ _ _ _ _ c.in-Some.later.now c.in-Some.row.now c.loop-row.invariant.walks c.in-Some.ensures.cases.0 _ _ c.in_ok-found.found _ c.from_residual-in_err-push-in-Some-found.ensures.1 c.in_ok-found.ensures.looks_up.reads;
    any_rows = search rules;
    damage = search rules;
  };
}
