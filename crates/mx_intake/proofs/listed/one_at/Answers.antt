use Rattle.std.proofs.Common.{◌≡◌, ◌∙◌, Some, sym, ap, refl, rules, arith, true, false}
use Rattle.std.proofs.lemmas.Fn.{says_at}
use Rattle.std.specs.Option.{option_map_or}
use Rattle.serde_json.specs.View.{view, items_view}
use Rattle.mx_intake.specs.Object.{any_item, list_at_key}
use Rattle.mx_intake.proofs.SequenceLemmas.{any_next, front}
use Rattle.mx_intake.proofs.listed.one_at.Goals as goal

pub returns-then-test : goal.returns-then-test
returns-then-test g c = λ passes computes.
    let found : Some (items_view c.in-Some.values.now) ≡ list_at_key c.args.key.now (view c.args.object.now) = search rules in
    sym (any_next (λ vs. any_item passes (items_view vs)) (λ v. passes (view v)) (λ v vs. refl) c.in-Some.values.now c.loop-value.value-index c.value-item.result true
    (front c.in-Some.values.now c.loop-value.value-index c.value-item.result (omega arith) c.value-item.is) (c.loop-value.invariant passes computes) (computes _ true (says_at g.F.Fn c.if-test.ensures refl)))
    ∙ ap (λ o. option_map_or (any_item passes) o false) found

pub loop-value-preserved : goal.loop-value-preserved
loop-value-preserved g c = λ passes computes.
    any_next (λ vs. any_item passes (items_view vs)) (λ v. passes (view v)) (λ v vs. refl) c.in-Some.values.now c.loop-value.value-index c.value-item.result false
    (front c.in-Some.values.now c.loop-value.value-index c.value-item.result (omega arith) c.value-item.is) (c.loop-value.invariant passes computes) (computes _ false (says_at g.F.Fn c.if-test.ensures refl))
