use Rattle.std.proofs.Common.{◌<◌, ◌∙◌, Vec, ap, arith, inl, min, refl, subst}
use Rattle.std.specs.declared.alloc.Global.{Global}
use Rattle.mx_book.specs.commands.Act.{Entry}
use Rattle.mx_lookups.proofs.NumbersProofs.ReadLemmas.{stopped}
use Rattle.mx_row_questions.proofs.EntriesProofs.EntryLemmas.{entries_begun, entries_ended, entries_ended-any, entries_missing, entries_more, entries_starved, entries_stopped}
use Rattle.mx_row_questions.proofs.entries.entries.entries.Goals as goal

pub returns-in_err-last-clause-reads : goal.returns-in_err-last-clause-reads
returns-in_err-last-clause-reads g c = inl (stopped _ _ _ _ _ _ c.from_residual.ensures.1 c.in_err-last.ensures.looks_up.reads)

pub loop-asked-init : goal.loop-asked-init
loop-asked-init g c = record {
  same_reference = c.in_ok-last.ensures.looks_up.same_reference;
  few = omega arith;
  begins = c.saturating_sub-before.ensures;
  wants = c.min-wanted.ensures ∙ ap (λ n. min n c.args.at_most) c.saturating_sub.ensures;
  walk = entries_begun c.saturating_sub-before.result c.in_ok-last.last _ _ _ c.new-found.ensures.items c.in_ok-last.ensures.looks_up.reads c.in_ok-last.ensures.looks_up.any_rows;
}

pub loop-asked-preserved : goal.loop-asked-preserved
loop-asked-preserved g c = record {
  same_reference = c.in_ok-stated.ensures.same_reference ∙ c.loop-asked.invariant.same_reference;
  few = omega (arith, c.loop-asked-test.true);
  begins = c.loop-asked.invariant.begins;
  wants = c.loop-asked.invariant.wants;
  walk = entries_more _ _ _ _ _ _ _ c.loop-asked.invariant.walk _ c.in_ok-stated.ensures.reads c.in_ok-stated.ensures.any_rows c.in-Some.command _ c.in-Some.is c.in_ok-push-in-Some.ensures.items;
}

pub returns-in_err-stated-clause-reads : goal.returns-in_err-stated-clause-reads
returns-in_err-stated-clause-reads g c = entries_stopped _ _ _ _ _ _ _ c.loop-asked.invariant.walk _ _ _ c.from_residual-in_err-stated.ensures.1 c.in_err-stated.ensures.reads

pub returns-in_err-push-in-Some-clause-reads : goal.returns-in_err-push-in-Some-clause-reads
returns-in_err-push-in-Some-clause-reads g c =
    entries_starved _ _ _ _ _ _ _ c.loop-asked.invariant.walk _ c.in_ok-stated.ensures.reads c.in_ok-stated.ensures.any_rows _ _ c.from_residual-in_err-push-in-Some.ensures.1

pub returns-in-None-clause-reads : goal.returns-in-None-clause-reads
returns-in-None-clause-reads g c =
    entries_missing _ _ _ _ _ _ _ c.loop-asked.invariant.walk _ c.in_ok-stated.ensures.reads c.in_ok-stated.ensures.any_rows _ c.args.at_most _ c.in-None.is (subst (λ n. c.loop-asked.asked < n) c.loop-asked.invariant.wants c.loop-asked-test.true) refl

pub returns-clause-reads : goal.returns-clause-reads
returns-clause-reads g c =
    let kept = c.loop-asked.invariant in
    inl (entries_ended c.args.from c.args.at_most _ _ _ _ _ _ _ c.loop-asked.found (λ (v : Vec Entry Global). v.items) refl kept.few c.loop-asked-test.false kept.wants kept.begins kept.walk)

pub returns-clause-any_rows : goal.returns-clause-any_rows
returns-clause-any_rows g c =
    let kept = c.loop-asked.invariant in
    entries_ended-any c.args.from c.args.at_most _ _ _ _ _ _ _ c.loop-asked.found (λ (v : Vec Entry Global). v.items) refl kept.few c.loop-asked-test.false kept.wants kept.begins kept.walk
