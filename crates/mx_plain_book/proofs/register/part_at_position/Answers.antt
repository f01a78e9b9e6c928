use Rattle.std.proofs.Common.{sym, ◌∙◌}
use Rattle.mx_plain_book.proofs.FindLemmas.{part_found, part_missed}
use Rattle.mx_plain_book.proofs.register.part_at_position.Goals as goal

pub returns-in-Some-part_of_position : goal.returns-in-Some-part_of_position
returns-in-Some-part_of_position c =
    sym (part_found c.args.entries.now c.loop-entry.rest.now c.in-Some.later.now c.in-Some.entry.now c.args.tail.now c.args.position.now c.in-Some-part_of_position.part
    c.in-Some.ensures.cases.0 c.loop-entry.invariant (rw (sym c.positions_given.ensures) (sym c.in-Some-part_of_position.ensures)))

pub loop-entry-preserved : goal.loop-entry-preserved
loop-entry-preserved c =
    part_missed c.args.entries.now c.loop-entry.rest.now c.in-Some.later.now c.in-Some.entry.now c.args.tail.now c.args.position.now
    c.in-Some.ensures.cases.0 c.loop-entry.invariant (rw (sym c.positions_given.ensures) (sym c.part_of_position.ensures ∙ c.in_default-part_of_position.is))
