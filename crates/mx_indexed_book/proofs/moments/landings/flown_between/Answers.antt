use Rattle.std.proofs.Common.{arith, ◌∙◌}
use Rattle.mx_indexed_book.proofs.MomentsProofs.LandingLemmas.{flown_found, sums_length}
use Rattle.mx_indexed_book.proofs.moments.landings.flown_between.Goals as goal

pub sum_at-requires : goal.sum_at-requires
sum_at-requires c = grind (arith, sums_length)

pub sum_at-requires-2 : goal.sum_at-requires-2
sum_at-requires-2 c = grind (arith, sums_length)

pub returns : goal.returns
returns c = c.less.ensures ∙ flown_found c.args.rows.now c.args.sums.now c.args.aircraft c.args.until c.count_before-first.result c.count_up_to-end.result c.place.result c.place-2.result c.last_by.result
    c.sum_at.result c.sum_at-2.result c.requires (omega arith) c.last_by.ensures c.place.ensures c.place-2.ensures c.count_before-first.ensures.bound c.count_up_to-end.ensures.bound
    c.count_before-first.ensures.these c.count_up_to-end.ensures.these c.sum_at.ensures c.sum_at-2.ensures
