use Rattle.std.proofs.Common.{sym, ap, ◌∙◌}
use Rattle.mx_book.specs.Life.{life_now}
use Rattle.mx_indexed_book.proofs.maps.lives.Lives.of_item.Goals as goal

pub returns-in-Airframe : goal.returns-in-Airframe
returns-in-Airframe c book is_book places are = c.of_airframe.ensures book are ∙ ap (life_now book) (sym c.in-Airframe.is)
