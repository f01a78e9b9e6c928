use Rattle.std.proofs.Common.{arith, sym, ◌∙◌}
use Rattle.mx_indexed_book.proofs.MapsProofs.MovementLemmas.{changes_are, few_movements}
use Rattle.mx_indexed_book.proofs.maps.movements.Movements.changes.Goals as goal

pub returns-in-Some : goal.returns-in-Some
returns-in-Some c book places are next =
    let given = c.in-Some.given in
    let counted = c.count-count.ensures book are in
    let few = few_movements book given.0 in
    let fits = c.ranges.seq.fits in
    changes_are book c.args.entry.now given.0 given.1 c.count-count.result c.saturating_add.result (sym c.in-Some.is ∙ c.movement_by.ensures book places) counted (c.saturating_add.ensures ∙ omega arith)
