use Rattle.std.proofs.Common.{sym, ap, ◌∙◌, Some, None}
use Rattle.std.specs.Option.{option_map}
use Rattle.mx_base.specs.declared.amounts.Use.{Use}
use Rattle.mx_book.specs.declared.commands.item.Item.TheVariants.{Component}
use Rattle.mx_book.proofs.LifeLemmas.{life_in_bounds}
use Rattle.mx_indexed_book.specs.maps.Lives.{component_life, lead_over}
use Rattle.mx_indexed_book.proofs.MapsProofs.LifeLemmas.{ahead_is}
use Rattle.mx_indexed_book.proofs.maps.lives.Lives.of_component.Goals as goal

pub returns-in-Some : goal.returns-in-Some
returns-in-Some c book is_book places are =
    let serial = c.args.serial.now in
    let life = component_life book serial in
    let other = c.where_fitted.result in
    ahead_is other life c.in-Some.lead c.life_ahead.result
    (sym c.in-Some.is ∙ c.held.ensures ∙ are.components_are serial ∙ ap (λ (o : Use). option_map (lead_over o) life) (sym (c.where_fitted.ensures book places are)))
    (λ v is leads. c.life_ahead.ensures v (life_in_bounds book (Component serial) None (Some v) is_book (sym is)) leads)
