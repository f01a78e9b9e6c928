use Rattle.std.proofs.Common.{◌∙◌, inl, inr, [], ◌∷◌, All, ap, arith, length, length-append, refl, subst, sym}
use Rattle.std.proofs.lemmas.List.Elements.{All-append, All-cons, All-nil}
use Rattle.mx_row_rules.specs.changes.Certified.{HasLifeReached}
use Rattle.mx_lookups.proofs.NumbersProofs.AnyLemmas.{empty_is}
use Rattle.mx_apply.proofs.MadeProofs.AnyMadeLemmas.{any_begun, any_ended, any_more}
use Rattle.mx_apply.proofs.MadeProofs.ReleaseLemmas.{lines_begun, lines_ended, lines_more, lines_starved, lines_stopped}
use Rattle.sqlite_rules.specs.Lists.{Has}
use Rattle.sqlite_rules.proofs.ListLemmas.{contains_had}
use Rattle.mx_lookups.proofs.NumbersProofs.ToldLemmas.{handed}
use Rattle.mx_apply.proofs.MadeProofs.DamageLemmas.{line_told}
use Rattle.mx_apply.proofs.made.releases.release_known.Goals as goal

pub loop-line-init : goal.loop-line-init
loop-line-init g c = record {
  same_reference = c.in_ok-number.ensures.same_reference;
  walk = lines_begun c.args.release.now c.args.lines.now _ _ _ _ _ _ c.new-known.ensures.items refl c.in_ok-number.ensures.reads;
  any_rows = any_begun c.args.release.now.place c.args.lines.now _ _ _ _ _ _ c.new-known.ensures.items refl c.in_ok-number.ensures.any_rows;
  left = λ line here. here;
  each = let none = ap length c.new-known.ensures.items in omega (arith, none);
  lives = subst (All HasLifeReached) (sym c.new-known.ensures.items) (All-nil HasLifeReached);
}

pub loop-line-preserved : goal.loop-line-preserved
loop-line-preserved g c =
    let known = c.in_ok-one.one in
    record {
      same_reference = c.in_ok-one.ensures.same_reference ∙ c.loop-line.invariant.same_reference;
      walk = lines_more c.args.release.now c.args.lines.now _ _ _ _ _ _ _ c.in-Some.later.now c.in-Some.line.now c.loop-line.invariant.walk c.in-Some.ensures.cases.0 known _ c.in_ok-push.ensures.items c.in_ok-one.ensures.reads;
      any_rows = any_more c.args.release.now.place c.args.lines.now _ _ _ _ _ _ _ c.in-Some.later.now c.in-Some.line.now c.in-Some.ensures.cases.0 _ known _ c.in_ok-push.ensures.items c.loop-line.invariant.walk c.loop-line.invariant.any_rows c.in_ok-one.ensures.reads.within c.in_ok-one.ensures.any_rows;
      left = λ line here. c.loop-line.invariant.left line (subst (λ l. Has l line) (sym c.in-Some.ensures.cases.0) (inr here));
      each =
          let longer = ap length c.in_ok-push.ensures.items ∙ length-append c.loop-line.known.items (known ∷ []) in
          let left = ap length c.in-Some.ensures.cases.0 in
          let was = c.loop-line.invariant.each in
          omega (arith, longer, left, was);
      lives = subst (All HasLifeReached) (sym c.in_ok-push.ensures.items) (All-append HasLifeReached _ (known ∷ []) c.loop-line.invariant.lives (All-cons HasLifeReached known [] c.in_ok-one.ensures.life (All-nil HasLifeReached)));
    }

pub returns-in_err-one-clause-reads : goal.returns-in_err-one-clause-reads
returns-in_err-one-clause-reads g c = lines_stopped c.args.release.now c.args.lines.now _ _ _ _ _ _ _ c.loop-line.invariant.walk _ _ _ _ c.from_residual-in_err-one.ensures.1 c.in_err-one.ensures.reads

pub returns-in_err-push-clause-reads : goal.returns-in_err-push-clause-reads
returns-in_err-push-clause-reads g c = lines_starved c.args.release.now c.args.lines.now _ _ _ _ _ _ _ c.loop-line.invariant.walk _ _ c.in_ok-one.one _ c.from_residual-in_err-push.ensures.1 c.in_ok-one.ensures.reads

pub returns-clause-reads : goal.returns-clause-reads
returns-clause-reads g c = lines_ended c.args.release.now c.args.lines.now _ _ _ _ _ _ (empty_is _ c.in_default.ensures.cases) c.loop-line.invariant.walk

pub returns-clause-any_rows : goal.returns-clause-any_rows
returns-clause-any_rows g c = any_ended c.args.release.now.place c.args.lines.now _ _ _ _ _ _ (empty_is _ c.in_default.ensures.cases) c.loop-line.invariant.any_rows

pub returns-in_err-number-clause-damage : goal.returns-in_err-number-clause-damage
returns-in_err-number-clause-damage g c = handed (λ _ _. inl) c.from_residual.ensures.1 c.in_err-number.ensures.damage

pub returns-in_err-one-clause-damage : goal.returns-in_err-one-clause-damage
returns-in_err-one-clause-damage g c =
    let lines = c.args.lines.now in
    let line = c.in-Some.line.now in
    let here = c.loop-line.invariant.left line (subst (λ l. Has l line) (sym c.in-Some.ensures.cases.0) (inl refl)) in
    line_told c.args.release.now.place lines _ _ _ _ _ _ _ line c.from_residual-in_err-one.ensures.1 c.loop-line.invariant.walk c.loop-line.invariant.any_rows c.in_err-one.ensures.reads.within (contains_had lines line here) c.in_err-one.ensures.damage
