use Rattle.mx_verify.proofs.DerivedProofs.KeptLemmas.{ends, goes_on}
use Rattle.mx_verify.proofs.derived.last_bases.add_bases.Goals as goal

pub loop-key-preserved : goal.loop-key-preserved
loop-key-preserved c = λ before b are.
    goes_on c.args.book.now c.args.keys.now c.loop-key.rest.now c.in-Some.later.now c.in-Some.key.now before c.loop-key.rows.items c.add_base.new.rows.items c.loop-key.met c.add_base.new.met
    c.in-Some.ensures.cases.0 c.in_ok-add_base.ensures (c.loop-key.invariant before b are)

pub returns : goal.returns
returns c = λ before b are. ends c.args.book.now c.args.keys.now c.loop-key.rest.now before c.loop-key.rows.items c.loop-key.met c.in_default.ensures.cases (c.loop-key.invariant before b are)
