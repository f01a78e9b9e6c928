use Rattle.std.proofs.Common.{sym, ap, ◌∙◌, [], ◌∷◌, Some, None}
use Rattle.std.specs.Option.{option_map}
use Rattle.mx_base.specs.declared.amounts.Use.{Use}
use Rattle.mx_book.specs.declared.commands.item.Item.TheVariants.{Airframe}
use Rattle.mx_book.specs.Life.{use_after}
use Rattle.mx_book.proofs.LifeLemmas.{life_in_bounds}
use Rattle.mx_indexed_book.proofs.maps.lives.Lives.flown.Goals as goal

pub returns-in-Some : goal.returns-in-Some
returns-in-Some c book is_book are =
    let s = c.args.sector.now in
    let life = c.in-Some.life in
    let found = sym c.in-Some.is ∙ c.of_airframe.ensures book are in
    ap (λ (u : Use). Some u) (c.with_sector.ensures (life_in_bounds book (Airframe s.tail) None (Some life) is_book found)) ∙ ap (option_map (use_after (s ∷ []))) found
