use Rattle.mx_indexed_book.proofs.MomentsProofs.WalkLemmas.{base_bounded, goes_on}
use Rattle.mx_indexed_book.proofs.moments.done.all_done.Goals as goal

pub add_done-requires-clause-bounded : goal.add_done-requires-clause-bounded
add_done-requires-clause-bounded c =
    let w = c.loop-a.invariant in λ number id. base_bounded c.args.book.now w.walked c.loop-a.rows.items c.loop-a.bases number id w.done

pub loop-a-preserved : goal.loop-a-preserved
loop-a-preserved c =
    goes_on c.args.book.now c.args.said.now c.loop-a.rest.now c.in-Some.later.now c.in-Some.a.now c.loop-a.rows.items c.add_done.new.rows.items c.loop-a.bases c.add_done.new.bases c.in-Some.ensures.cases.0 c.loop-a.invariant
    c.in_ok-add_done.ensures
