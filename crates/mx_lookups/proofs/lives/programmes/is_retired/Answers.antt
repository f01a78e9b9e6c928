use Rattle.std.proofs.Common.{◌∙◌, None, Vec, ap, inl, refl, sym, inr}
use Rattle.std.specs.Option.{option_map}
use Rattle.std.specs.declared.alloc.Global.{Global}
use Rattle.mx_base.specs.declared.rows.rows.TaskRow.{TaskRow}
use Rattle.mx_row_rules.specs.found.Programmes.{is_retired_in}
use Rattle.mx_lookups.proofs.LivesProofs.InForceLemmas.{retired_is}
use Rattle.mx_lookups.proofs.NumbersProofs.Composed.{answers, behind, by_first, hands, none_given, some_given}
use Rattle.mx_lookups.specs.numbers.Given.{BornOf, LifeOf}
use Rattle.mx_lookups.proofs.lives.programmes.is_retired.Goals as goal

pub returns-in-Some-found : goal.returns-in-Some-found
returns-in-Some-found g c = record {
  looks_up =
      let those = ap (option_map (λ (rows : Vec TaskRow Global). rows.items)) c.in-Some-found.is in
      let made = c.is_retired_in.ensures ∙ ap (λ rows. is_retired_in c.in-Some.part c.in-Some.birth c.in-Some-alive.life c.args.day rows) c.deref.ensures.value in
      answers (behind c.in_ok-known.ensures.looks_up (behind c.in_ok-alive-in-Some.ensures.looks_up c.in_ok-found-in-Some-alive.ensures.looks_up))
      (λ book b all. made ∙ retired_is book b c.args.kind.now c.args.day c.in-Some-alive.life c.args.item.now c.in-Some.part c.in-Some.birth _ (sym all.0 ∙ c.in-Some.is) (sym all.1.0 ∙ c.in-Some-alive.is) (sym those ∙ all.1.1))
      (λ _ all. some_given c.in-Some.is all.0 (some_given c.in-Some-alive.is all.1.0 (some_given those all.1.1 made)));
}

pub returns-in-None-found : goal.returns-in-None-found
returns-in-None-found g c = record {
  looks_up =
      let none = ap (option_map (λ (rows : Vec TaskRow Global). rows.items)) c.in-None-found.is in
      answers (behind c.in_ok-known.ensures.looks_up (behind c.in_ok-alive-in-Some.ensures.looks_up c.in_ok-found-in-Some-alive.ensures.looks_up))
      (λ book b all. retired_is book b c.args.kind.now c.args.day c.in-Some-alive.life c.args.item.now c.in-Some.part c.in-Some.birth None (sym all.0 ∙ c.in-Some.is) (sym all.1.0 ∙ c.in-Some-alive.is) (sym none ∙ all.1.1))
      (λ _ all. some_given c.in-Some.is all.0 (some_given c.in-Some-alive.is all.1.0 (none_given none all.1.1 refl)));
}

pub returns-in_err-alive-in-Some : goal.returns-in_err-alive-in-Some
returns-in_err-alive-in-Some g c = record { looks_up = hands c.from_residual-in_err-alive-in-Some.ensures.1 (λ _ _ it. inr (_, by_first (BornOf _) {n = (c.in-Some.part, c.in-Some.birth)} c.in-Some.is it.0, (inl it.1))) (behind c.in_ok-known.ensures.looks_up c.in_err-alive-in-Some.ensures.looks_up) }

pub returns-in_err-found-in-Some-alive : goal.returns-in_err-found-in-Some-alive
returns-in_err-found-in-Some-alive g c = record { looks_up = hands c.from_residual-in_err-found-in-Some-alive.ensures.1 (λ _ _ it. inr (_, by_first (BornOf _) {n = (c.in-Some.part, c.in-Some.birth)} c.in-Some.is it.0, (inr (_, by_first (LifeOf _) c.in-Some-alive.is it.1.0, it.1.1)))) (behind c.in_ok-known.ensures.looks_up (behind c.in_ok-alive-in-Some.ensures.looks_up c.in_err-found-in-Some-alive.ensures.looks_up)) }
