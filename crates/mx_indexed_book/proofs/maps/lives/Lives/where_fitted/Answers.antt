use Rattle.std.proofs.Common.{sym, ap, ◌∙◌, ℕ, List, Option, None}
use Rattle.std.specs.Option.{option_map_or}
use Rattle.mx_book.specs.Life.{use_or_none}
use Rattle.mx_indexed_book.specs.maps.Lives.{airframe_life}
use Rattle.mx_indexed_book.proofs.maps.lives.Lives.where_fitted.Goals as goal

pub returns-in-Some : goal.returns-in-Some
returns-in-Some c book places are =
    c.airframe_or_none.ensures book are
    ∙ ap (λ (o : Option (List ℕ)). option_map_or (λ t. use_or_none (airframe_life book t)) o (use_or_none None)) (sym c.in-Some.is ∙ c.tail_fitted.ensures book places)
