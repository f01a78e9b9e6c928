use Rattle.std.proofs.Common.{sym, ap, ◌∙◌}
use Rattle.mx_book.specs.Life.{opening_in}
use Rattle.mx_book.proofs.LifeLemmas.{opening_small}
use Rattle.mx_plain_book.proofs.lives.life.Goals as goal

pub use_after_sectors-requires-clause-small : goal.use_after_sectors-requires-clause-small
use_after_sectors-requires-clause-small c =
    opening_small c.args.entries.now c.args.item.now c.in_ok-opening.opening c.requires.shaped (ap opening_in (sym c.found_of.ensures) ∙ sym c.in_ok-opening.ensures)
