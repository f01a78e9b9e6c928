use Rattle.std.proofs.Common.{arith, ap}
use Rattle.mx_base.specs.declared.amounts.Use.{Use}
use Rattle.mx_book.proofs.LifeLemmas.{life_room}
use Rattle.mx_plain_book.proofs.lives.use_after_sectors.Goals as goal

pub overflow_add-minutes : goal.overflow_add-minutes
overflow_add-minutes c =
    let room = life_room c.args.entries.now c.args.item.now c.args.until c.args.opening c.loop-entry.minutes c.loop-entry.cycles c.loop-entry.rest.now c.in-Some.later.now c.in-Some.entry.now
    c.in-Some.ensures.cases.0 c.requires.few c.requires.shaped c.requires.small c.loop-entry.invariant.minutes c.loop-entry.invariant.cycles in
    omega (arith, room.0, ap (λ (u : Use). u.minutes) c.share_of-more.ensures)

pub overflow_add-cycles : goal.overflow_add-cycles
overflow_add-cycles c =
    let room = life_room c.args.entries.now c.args.item.now c.args.until c.args.opening c.loop-entry.minutes c.loop-entry.cycles c.loop-entry.rest.now c.in-Some.later.now c.in-Some.entry.now
    c.in-Some.ensures.cases.0 c.requires.few c.requires.shaped c.requires.small c.loop-entry.invariant.minutes c.loop-entry.invariant.cycles in
    omega (arith, room.1, ap (λ (u : Use). u.cycles) c.share_of-more.ensures)
