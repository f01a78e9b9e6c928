use Rattle.mx_verify.proofs.MergedProofs.TotalLemmas.{at_next, ends, goes_on, item_first, totals_from}
use Rattle.mx_verify.proofs.merged.totals.total_rows.Goals as goal

pub add_total-requires : goal.add_total-requires
add_total-requires c = item_first c.args.book.now c.loop-entry.rest.now c.in-Some.later.now c.in-Some.entry.now c.loop-entry.seq c.in-Some.ensures.cases.0 c.loop-entry.invariant.1

pub loop-entry-preserved : goal.loop-entry-preserved
loop-entry-preserved c = (
  goes_on c.args.book.now c.loop-entry.rest.now c.in-Some.later.now c.in-Some.entry.now c.loop-entry.seq c.loop-entry.rows.items c.add_total.new.rows.items (totals_from c.args.book.now 1 c.args.book.now) c.in-Some.ensures.cases.0 c.in_ok-add_total.ensures c.loop-entry.invariant.0,
  at_next c.args.book.now c.loop-entry.rest.now c.in-Some.later.now c.in-Some.entry.now c.loop-entry.seq c.in-Some.ensures.cases.0 c.loop-entry.invariant.1,
)

pub returns : goal.returns
returns c = ends c.args.book.now c.loop-entry.rest.now c.loop-entry.seq c.loop-entry.rows.items c.in_default.ensures.cases c.loop-entry.invariant.0
