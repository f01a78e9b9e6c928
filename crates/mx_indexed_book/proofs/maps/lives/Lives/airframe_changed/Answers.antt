use Rattle.std.proofs.Common.{sym, ◌∙◌}
use Rattle.mx_indexed_book.proofs.MapsProofs.LifeLemmas.{flown_changed}
use Rattle.mx_indexed_book.proofs.maps.lives.Lives.airframe_changed.Goals as goal

pub returns-in-Some : goal.returns-in-Some
returns-in-Some c book is_book are =
    flown_changed book c.args.entry.now.act c.in-Some.sector (sym c.flown_sector.ensures.sector ∙ c.in-Some.is) c.flown.result (c.flown.ensures book is_book are)
