use Rattle.std.proofs.Common.{◌≡◌, ◌∙◌, ℕ, pos, Bool, false, true, cond, List, Option, None, Some, ap, filter, nat_eq, refl, subst, sym, inl, inr, rules}
use Rattle.std.specs.Prelude.{is_some}
use Rattle.std.specs.Option.{option_map}
use Rattle.sqlite.specs.declared.types.Value.TheVariants.{Int}
use Rattle.mx_book.specs.commands.Act.{Entry}
use Rattle.mx_registers.specs.late.Found.{found_rows}
use Rattle.mx_base.specs.declared.rows.rows.Deferral3Row.{Deferral3Row}
use Rattle.mx_row_rules.specs.found.Defects.{defect_said, is_rectified_at, open_said}
use Rattle.mx_row_rules.specs.found.Names.{doc_at}
use Rattle.mx_layout.specs.declared.fault.Table.TheVariants as table
use Rattle.mx_layout.specs.kept.Cells.{kept_defect3}
use Rattle.mx_table_rows.specs.chosen.Choices.{has_value}
use Rattle.mx_lookups.specs.numbers.Given.{DocIfOpen, OpenSaid}
use Rattle.mx_lookups.proofs.NumbersProofs.LaterRows.{found_of_aircraft}
use Rattle.mx_lookups.proofs.LaterLemmas.{entries_of_found, found_entry_unmet}
use Rattle.mx_lookups.proofs.NumbersProofs.LaterTables.{deferrals_found}
use Rattle.mx_lookups.proofs.WalkLemmas.{missing, said_more, walk_begun, walk_ended, walk_said, walk_starved, walk_stopped, told_each}
use Rattle.mx_lookups.proofs.NumbersProofs.ReadLemmas.{stopped}
use Rattle.mx_lookups.proofs.NumbersProofs.ToldLemmas.{handed, has_none, told_as, told_here, unread}
use Rattle.mx_lookups.specs.numbers.Told.{DocIfOpenDamage, Either, HasNoEntry, Of}
use Rattle.mx_lookups.proofs.later_defects.defects_left.Goals as goal

abbrev rows_at : ℕ → List Entry → List Deferral3Row
rows_at n book = filter (λ (row : Deferral3Row). nat_eq row.deferral.aircraft n) (found_rows book)

abbrev HasEntry : List Entry → Deferral3Row → Type 0
HasEntry book row = is_some (doc_at book row.deferral.seq) ≡ true

pub loop-row-init : goal.loop-row-init
loop-row-init g c = record {
  same_reference = c.in_ok-rows.ensures.same_reference;
  walks = walk_begun kept_defect3 (rows_at c.args.aircraft) (λ book row. open_said book c.args.tail.now row.deferral) HasEntry (has_value 1 (Int (pos c.args.aircraft))) (λ trees row. OpenSaid c.args.tail.now trees row.deferral) _ _ _ _ _ _ c.new-open.ensures.items c.as_slice-rest.ensures.value (λ book b. entries_of_found book c.args.aircraft) deferrals_found c.in_ok-rows.ensures.reads
      (found_of_aircraft c.args.aircraft c.in_ok-rows.ensures.reads);
}

-- where the document of a defect was found, it was not rectified
left_open : {X : Type 0} (said : List ℕ → X) (rectified : Bool) (doc : Option (List ℕ)) (name : List ℕ) → ◌≡◌ {A = Option (Option (List ℕ))} (Some (Some name)) (cond rectified None (Some doc)) → cond rectified None (option_map said doc) ≡ Some (said name)
left_open said true doc name h = absurd cc
left_open said false doc name h = let same : doc ≡ Some name = cc in ap (option_map said) same

pub loop-row-preserved-in_ok-push-in-Some-known : goal.loop-row-preserved-in_ok-push-in-Some-known
loop-row-preserved-in_ok-push-in-Some-known g c =
    let row = c.in-Some.row.now in
    let tail = c.args.tail.now in
    let name = c.in-Some-known.doc in
    let known : ◌≡◌ {A = Option (Option (List ℕ))} c.in_ok-found.found (Some (Some name)) = c.in-Some-found.is ∙ ap Some c.in-Some-known.is in
    record {
      same_reference = c.in_ok-found.ensures.looks_up.later.same_reference ∙ c.loop-row.invariant.same_reference;
      walks = said_more kept_defect3 (rows_at c.args.aircraft) (λ book r. open_said book tail r.deferral) HasEntry (has_value 1 (Int (pos c.args.aircraft))) (λ trees row. OpenSaid c.args.tail.now trees row.deferral) _ _ _ _ _ c.in-Some.later.now row c.loop-row.invariant.walks c.in-Some.ensures.cases.0 _ (DocIfOpen row.deferral.seq) c.in_ok-found.found c.defect_said.result _
          c.in_ok-push-in-Some-known.ensures.items
          (λ book found. left_open (λ doc. defect_said doc tail row.deferral) (is_rectified_at book row.deferral.seq) (doc_at book row.deferral.seq) name (sym known ∙ found) ∙ ap Some (sym c.defect_said.ensures))
          (λ trees any. (Some name, subst (DocIfOpen row.deferral.seq trees) known any, ap Some c.defect_said.ensures)) c.in_ok-found.ensures.looks_up.later.reads c.in_ok-found.ensures.looks_up.later.any_rows;
    }

-- the entry of a defect that was not rectified is there
no_entry : {X : Type 0} (rectified : Bool) (doc : Option X) → is_some doc ≡ true → ◌≡◌ {A = Option (Option X)} (Some None) (cond rectified None (Some doc)) → ⊥
no_entry true doc there h = absurd cc
no_entry false doc there h = (let e : doc ≡ None = cc in let f = ap is_some (sym e) ∙ there in absurd cc)

pub returns-in_err-rows : goal.returns-in_err-rows
returns-in_err-rows g c = record {
  looks_up = record {
    same_reference = search rules;
    reads = stopped _ _ _ _ _ _ c.from_residual.ensures.1 (found_of_aircraft c.args.aircraft c.in_err-rows.ensures.reads);
    any_rows = search rules;
    damage = told_as (λ _ _. inl) (unread deferrals_found c.from_residual.ensures.1 c.in_err-rows.ensures.reads);
  };
}

pub returns-in_err-found : goal.returns-in_err-found
returns-in_err-found g c = record {
  looks_up = record {
    same_reference = search rules;
    reads = walk_stopped kept_defect3 (rows_at c.args.aircraft) (λ book r. open_said book c.args.tail.now r.deferral) HasEntry (has_value 1 (Int (pos c.args.aircraft))) (λ trees row. OpenSaid c.args.tail.now trees row.deferral) _ _ _ _ _ c.loop-row.invariant.walks _ _ _ _ c.from_residual-in_err-found.ensures.1 c.in_err-found.ensures.looks_up.later.reads;
    any_rows = search rules;
    damage =
        let found = c.in_err-found.ensures.looks_up.later in
        told_each kept_defect3 (rows_at c.args.aircraft) (λ book r. open_said book c.args.tail.now r.deferral) HasEntry (has_value 1 (Int (pos c.args.aircraft))) (λ trees row. OpenSaid c.args.tail.now trees row.deferral) _ _ _ _ _ c.in-Some.later.now c.in-Some.row.now c.loop-row.invariant.walks c.in-Some.ensures.cases.0 (λ row. Either (DocIfOpenDamage row.deferral.seq) (Of table.Defect3 (HasNoEntry row.deferral.seq))) _ found.reads.within (handed (λ _ _. inl) c.from_residual-in_err-found.ensures.1 found.damage);
  };
}

pub returns-in-None-known : goal.returns-in-None-known
returns-in-None-known g c = record {
  looks_up = record {
    same_reference = search rules;
    reads =
        let row = c.in-Some.row.now in
        let found = c.in_ok-found.ensures.looks_up.later in
        let none : ◌≡◌ {A = Option (Option (List ℕ))} c.in_ok-found.found (Some None) = c.in-Some-found.is ∙ ap Some c.in-None-known.is in
        missing kept_defect3 (rows_at c.args.aircraft) (λ book r. open_said book c.args.tail.now r.deferral) HasEntry (has_value 1 (Int (pos c.args.aircraft))) (λ trees row. OpenSaid c.args.tail.now trees row.deferral) _ _ _ _ _ c.in-Some.later.now row c.loop-row.invariant.walks c.in-Some.ensures.cases.0 _ _ (DocIfOpen row.deferral.seq) c.in_ok-found.found table.Defect3
        (λ book there said. no_entry (is_rectified_at book row.deferral.seq) (doc_at book row.deferral.seq) there (sym none ∙ said))
        (λ trees kept any. found_entry_unmet trees row kept (subst (DocIfOpen row.deferral.seq trees) none any).1) found.reads found.any_rows;
    any_rows = search rules;
    damage =
        let row = c.in-Some.row.now in
        let found = c.in_ok-found.ensures.looks_up.later in
        let none : ◌≡◌ {A = Option (Option (List ℕ))} c.in_ok-found.found (Some None) = c.in-Some-found.is ∙ ap Some c.in-None-known.is in
        told_each kept_defect3 (rows_at c.args.aircraft) (λ book r. open_said book c.args.tail.now r.deferral) HasEntry (has_value 1 (Int (pos c.args.aircraft))) (λ trees row. OpenSaid c.args.tail.now trees row.deferral) _ _ _ _ _ c.in-Some.later.now row c.loop-row.invariant.walks c.in-Some.ensures.cases.0 (λ row. Either (DocIfOpenDamage row.deferral.seq) (Of table.Defect3 (HasNoEntry row.deferral.seq))) _ found.reads.within
        (told_here table.Defect3 (λ clean has. (let gone = subst (DocIfOpen row.deferral.seq _) none (found.any_rows.found clean has) in inr (refl, (gone.0, has_none (λ r. r.doc) gone.1)))));
  };
}

pub returns : goal.returns
returns g c = record {
  looks_up = record {
    same_reference = search rules;
    reads = walk_ended kept_defect3 (rows_at c.args.aircraft) (λ book r. open_said book c.args.tail.now r.deferral) HasEntry (has_value 1 (Int (pos c.args.aircraft))) (λ trees row. OpenSaid c.args.tail.now trees row.deferral) (λ v. v.items) _ _ _ _ c.in_default.ensures.cases c.loop-row.invariant.walks;
    any_rows = walk_said kept_defect3 (rows_at c.args.aircraft) (λ book r. open_said book c.args.tail.now r.deferral) HasEntry (has_value 1 (Int (pos c.args.aircraft))) (λ trees row. OpenSaid c.args.tail.now trees row.deferral) (λ v. v.items) _ _ _ _ c.in_default.ensures.cases c.loop-row.invariant.walks;
    damage = search rules;
  };
}

pub returns-in_err-push-in-Some-known : goal.returns-in_err-push-in-Some-known
returns-in_err-push-in-Some-known g c = record {
  looks_up = record {
    same_reference = search rules;
    reads = walk_starved kept_defect3 (rows_at c.args.aircraft) (λ book r. open_said book c.args.tail.now r.deferral) HasEntry (has_value 1 (Int (pos c.args.aircraft))) (λ trees row. OpenSaid c.args.tail.now trees row.deferral) _ _ _ _ _ c.in-Some.later.now c.in-Some.row.now c.loop-row.invariant.walks c.in-Some.ensures.cases.0 _ _ c.in_ok-found.found _ c.from_residual-in_err-push-in-Some-known.ensures.1 c.in_ok-found.ensures.looks_up.later.reads;
    any_rows = search rules;
    damage = search rules;
  };
}
