use Rattle.std.proofs.Common.{sym, ap, subst, ◌∙◌, Some, None}
use Rattle.std.specs.Option.{option_map}
use Rattle.mx_base.specs.declared.amounts.Use.{Use}
use Rattle.mx_book.specs.declared.commands.item.Item.TheVariants.{Component}
use Rattle.mx_book.specs.due.Due.{IsLife}
use Rattle.mx_book.proofs.LifeLemmas.{life_in_bounds}
use Rattle.mx_book.specs.Span.{is_fitted_to}
use Rattle.mx_indexed_book.specs.maps.Lives.{flown_if, lead_over, life_where_fitted}
use Rattle.mx_indexed_book.proofs.MapsProofs.LifeLemmas.{where_bounded}
use Rattle.mx_indexed_book.proofs.maps.lives.Lives.lead_with.Goals as goal

pub returns : goal.returns
returns c book is_book places are =
    let s = c.args.sector.now in
    let serial = c.args.serial.now in
    let credited = c.args.credited in
    let life = c.in_ok-life.life in
    let found = sym c.in_ok-life.was ∙ c.of_component.ensures book is_book places are in
    let where_it_is = c.where_fitted-other.ensures book places are in
    ap (λ l. Some l) (c.lead_over.ensures
    ∙ ap (λ (u : Use). lead_over u c.flown_if.result) (c.flown_if-other.ensures (subst IsLife (sym where_it_is) (where_bounded book serial is_book))
    ∙ ap (λ b. flown_if b s c.where_fitted-other.result) (c.is_fitted_to.ensures book places)
    ∙ ap (flown_if (is_fitted_to book s.tail serial) s) where_it_is)
    ∙ ap (lead_over (flown_if (is_fitted_to book s.tail serial) s (life_where_fitted book serial))) (c.flown_if.ensures (life_in_bounds book (Component serial) None (Some life) is_book found)))
    ∙ ap (option_map (λ (u : Use). lead_over (flown_if (is_fitted_to book s.tail serial) s (life_where_fitted book serial)) (flown_if credited s u))) found
