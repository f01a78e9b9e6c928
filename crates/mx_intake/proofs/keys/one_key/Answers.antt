use Rattle.std.proofs.Common.{refl, sym, arith, true, false, map}
use Rattle.std.proofs.lemmas.Fn.{says_at}
use Rattle.std.proofs.lemmas.List.{drop_more}
use Rattle.std.specs.List.{list_any}
use Rattle.mx_intake.proofs.SequenceLemmas.{any_next}
use Rattle.mx_intake.proofs.keys.one_key.Goals as goal

pub returns-then-test : goal.returns-then-test
returns-then-test g c = λ passes computes.
    sym (any_next (λ keys. list_any passes (map (λ k. k.now) keys)) (λ k. passes k.now) (λ k keys. refl) c.args.keys.now c.loop-key.key-index _ true
    (drop_more c.args.keys.now c.loop-key.key-index _ (omega arith)) (c.loop-key.invariant passes computes) (computes _ true (says_at g.F.Fn c.if-test.ensures refl)))

pub loop-key-preserved : goal.loop-key-preserved
loop-key-preserved g c = λ passes computes.
    any_next (λ keys. list_any passes (map (λ k. k.now) keys)) (λ k. passes k.now) (λ k keys. refl) c.args.keys.now c.loop-key.key-index _ false
    (drop_more c.args.keys.now c.loop-key.key-index _ (omega arith)) (c.loop-key.invariant passes computes) (computes _ false (says_at g.F.Fn c.if-test.ensures refl))
