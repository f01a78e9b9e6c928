use Rattle.std.proofs.Common.{◌≡◌, ◌∙◌, true, false, List, Option, None, Some, Vec, ap, cond, sym, subst, inl, inr, rules, refl}
use Rattle.std.specs.Prelude.{is_some, nat_eq}
use Rattle.std.specs.HashSet.{contains}
use Rattle.std.specs.declared.alloc.Global.{Global}
use Rattle.mx_book.specs.commands.Act.{Entry}
use Rattle.mx_book.specs.declared.defects.Defect.{Defect}
use Rattle.mx_registers.specs.late.Found.{found_rows}
use Rattle.mx_base.specs.declared.rows.rows.Deferral3Row.{Deferral3Row}
use Rattle.mx_row_rules.specs.found.Defects.{deferred_said}
use Rattle.mx_layout.specs.declared.fault.Table.TheVariants as table
use Rattle.mx_layout.specs.kept.Cells.{kept_defect3}
use Rattle.mx_table_rows.specs.chosen.Choices.{is_any}
use Rattle.mx_lookups.specs.numbers.Given.{AreRectified, DefectOfRow, LeftSaid}
use Rattle.mx_lookups.specs.numbers.Told.{Damage, DefectIfOpenDamage, Either, LacksOne, Of}
use Rattle.mx_lookups.proofs.FleetLemmas.{each_under, lacks_one, left_damage, left_out, said_left, said_there}
use Rattle.mx_lookups.proofs.LaterLemmas.{SaysButFound, all_by_found, all_found_there, but_found_left, each_said, found_lacking, said_but_found}
use Rattle.mx_lookups.proofs.NumbersProofs.AnyLemmas.{any_so}
use Rattle.mx_lookups.proofs.NumbersProofs.LaterRows.{found_all}
use Rattle.mx_lookups.proofs.NumbersProofs.ReadLemmas.{stopped, told}
use Rattle.mx_lookups.proofs.NumbersProofs.LaterTables.{deferrals_found}
use Rattle.mx_lookups.proofs.NumbersProofs.ToldLemmas.{handed, told_as, told_here, unread}
use Rattle.mx_lookups.proofs.WalkLemmas.{missing, said_more, skipped, told_each, walk_begun, walk_ended, walk_said, walk_starved, walk_stopped}
use Rattle.mx_lookups.proofs.later_defects.defects_but.Goals as goal

abbrev IsThere : List Entry → Deferral3Row → Type 0
IsThere book row = is_some (deferred_said book row.deferral) ≡ true

-- what is told for a deferral that is open
abbrev OfOne : Deferral3Row → Damage
OfOne row = Either (DefectIfOpenDamage row.deferral) (Of table.Defect3 (LacksOne row.deferral))

pub loop-row-init : goal.loop-row-init
loop-row-init g c =
    let rectified = c.args.rectified.now in
    record {
      same_reference = c.in_ok-rows.ensures.same_reference;
      walks = walk_begun kept_defect3 found_rows (said_but_found rectified) IsThere is_any (SaysButFound rectified) _ _ _ _ _ _ c.new-open.ensures.items c.as_slice-rest.ensures.value all_found_there deferrals_found c.in_ok-rows.ensures.reads (found_all c.in_ok-rows.ensures.reads);
    }

pub loop-row-preserved-in_ok-push-in-Some-said : goal.loop-row-preserved-in_ok-push-in-Some-said
loop-row-preserved-in_ok-push-in-Some-said g c =
    let rectified = c.args.rectified.now in
    let row = c.in-Some.row.now in
    let known : ◌≡◌ {A = Option Defect} c.in_ok-said.said (Some c.in-Some-said.defect) = c.in-Some-said.is in
    let out : contains nat_eq rectified row.deferral.seq ≡ false = search rules in
    record {
      same_reference = c.in_ok-said.ensures.looks_up.later.same_reference ∙ c.loop-row.invariant.same_reference;
      walks = said_more kept_defect3 found_rows (said_but_found rectified) IsThere is_any (SaysButFound rectified) _ _ _ _ _ c.in-Some.later.now row c.loop-row.invariant.walks c.in-Some.ensures.cases.0 _ (DefectOfRow row.deferral) c.in_ok-said.said c.in-Some-said.defect _
          c.in_ok-push-in-Some-said.ensures.items
          (λ book found. ap (λ t. cond t None (deferred_said book row.deferral)) out ∙ sym found ∙ known)
          (λ trees any. said_left rectified trees row.deferral out c.in-Some-said.defect (subst (DefectOfRow row.deferral trees) known any)) c.in_ok-said.ensures.looks_up.later.reads c.in_ok-said.ensures.looks_up.later.any_rows;
    }

pub loop-row-preserved : goal.loop-row-preserved
loop-row-preserved g c =
    let rectified = c.args.rectified.now in
    let row = c.in-Some.row.now in
    let among : contains nat_eq rectified row.deferral.seq ≡ true = search rules in
    record {
      same_reference = c.loop-row.invariant.same_reference;
      walks = skipped kept_defect3 found_rows (said_but_found rectified) IsThere is_any (SaysButFound rectified) _ _ _ _ c.in-Some.later.now row c.loop-row.invariant.walks c.in-Some.ensures.cases.0
          (λ book. ap (λ t. cond t None (deferred_said book row.deferral)) among) (λ trees. left_out rectified trees row.deferral among);
    }

pub returns-in_err-rows : goal.returns-in_err-rows
returns-in_err-rows g c = record {
  looks_up = record {
    same_reference = search rules;
    reads = stopped _ _ _ _ _ _ c.from_residual.ensures.1 (found_all c.in_err-rows.ensures.reads);
    any_rows = search rules;
    damage = told_as (λ _ _ it _. inl it) (unread deferrals_found c.from_residual.ensures.1 c.in_err-rows.ensures.reads);
  };
}

pub returns-in_err-said : goal.returns-in_err-said
returns-in_err-said g c =
    let rectified = c.args.rectified.now in
    let row = c.in-Some.row.now in
    let out : contains nat_eq rectified row.deferral.seq ≡ false = search rules in
    record {
      looks_up = record {
        same_reference = search rules;
        reads = walk_stopped kept_defect3 found_rows (said_but_found rectified) IsThere is_any (SaysButFound rectified) _ _ _ _ _ c.loop-row.invariant.walks _ _ _ _ c.from_residual-in_err-said.ensures.1 c.in_err-said.ensures.looks_up.later.reads;
        any_rows = search rules;
        damage =
            let said = c.in_err-said.ensures.looks_up.later in
            told_as (λ name trees. each_under kept_defect3 is_any OfOne name trees (AreRectified rectified))
            (told_each kept_defect3 found_rows (said_but_found rectified) IsThere is_any (SaysButFound rectified) _ _ _ _ _ c.in-Some.later.now row c.loop-row.invariant.walks c.in-Some.ensures.cases.0 (λ row name trees. AreRectified rectified trees → OfOne row name trees) _ said.reads.within
            (handed (λ name trees it known. inl (left_damage rectified trees row.deferral out name it known)) c.from_residual-in_err-said.ensures.1 said.damage));
      };
    }

pub returns-in-None : goal.returns-in-None
returns-in-None g c =
    let rectified = c.args.rectified.now in
    let row = c.in-Some.row.now in
    let said = c.in_ok-said.ensures.looks_up.later in
    let none : ◌≡◌ {A = Option Defect} c.in_ok-said.said None = c.in-None.is in
    let out : contains nat_eq rectified row.deferral.seq ≡ false = search rules in
    record {
      looks_up = record {
        same_reference = search rules;
        reads =
            missing kept_defect3 found_rows (said_but_found rectified) IsThere is_any (SaysButFound rectified) _ _ _ _ _ c.in-Some.later.now row c.loop-row.invariant.walks c.in-Some.ensures.cases.0 _ _ (DefectOfRow row.deferral) c.in_ok-said.said table.Defect3
            (λ book there found. said_there (deferred_said book row.deferral) there (sym none ∙ found))
            (λ trees kept any. found_lacking trees row kept (subst (DefectOfRow row.deferral trees) none any)) said.reads said.any_rows;
        any_rows = search rules;
        damage =
            told_as (λ name trees. each_under kept_defect3 is_any OfOne name trees (AreRectified rectified))
            (told_each kept_defect3 found_rows (said_but_found rectified) IsThere is_any (SaysButFound rectified) _ _ _ _ _ c.in-Some.later.now row c.loop-row.invariant.walks c.in-Some.ensures.cases.0 (λ row name trees. AreRectified rectified trees → OfOne row name trees) _ said.reads.within
            (told_here table.Defect3 (λ clean has known. inr (refl, lacks_one rectified _ row.deferral out (subst (DefectOfRow row.deferral _) none (said.any_rows.found clean has)) known))));
      };
    }

pub returns-in_err-push-in-Some-said : goal.returns-in_err-push-in-Some-said
returns-in_err-push-in-Some-said g c =
    let rectified = c.args.rectified.now in
    record {
      looks_up = record {
        same_reference = search rules;
        reads = walk_starved kept_defect3 found_rows (said_but_found rectified) IsThere is_any (SaysButFound rectified) _ _ _ _ _ c.in-Some.later.now c.in-Some.row.now c.loop-row.invariant.walks c.in-Some.ensures.cases.0 _ _ c.in_ok-said.said _ c.from_residual-in_err-push-in-Some-said.ensures.1 c.in_ok-said.ensures.looks_up.later.reads;
        any_rows = search rules;
        damage = search rules;
      };
    }

pub returns : goal.returns
returns g c =
    let rectified = c.args.rectified.now in
    record {
      looks_up = record {
        same_reference = search rules;
        reads =
            told {V = Vec Defect Global} _ _ _ _ c.loop-row.open c.loop-row.open (λ book b is known. is ∙ but_found_left rectified book known (found_rows book) ∙ all_by_found book b)
            (walk_ended kept_defect3 found_rows (said_but_found rectified) IsThere is_any (SaysButFound rectified) (λ v. v.items) _ _ c.loop-row.open _ c.in_default.ensures.cases c.loop-row.invariant.walks);
        any_rows =
            any_so {V = Vec Defect Global} _ _ _ _ c.loop-row.open c.loop-row.open (λ trees each known. (each.0, each.1, each_said (SaysButFound rectified trees) (λ row. LeftSaid trees row.deferral) (λ row said says. says known) each.0 c.loop-row.open.items each.2))
            (walk_said kept_defect3 found_rows (said_but_found rectified) IsThere is_any (SaysButFound rectified) (λ v. v.items) _ _ c.loop-row.open _ c.in_default.ensures.cases c.loop-row.invariant.walks);
        damage = search rules;
      };
    }
