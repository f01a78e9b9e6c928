use Rattle.std.proofs.Common.{ap, ◌∙◌}
use Rattle.std.specs.Prelude.{filter}
use Rattle.std.specs.List.{filter_map}
use Rattle.mx_book.specs.Span.{spans, is_open_on}
use Rattle.mx_book.proofs.Chaining.{first, then, done}
use Rattle.mx_lists.specs.LifeList.{part_before}
use Rattle.mx_lists.specs.Order.{in_order}
use Rattle.mx_lists.specs.Fitted.{part_of_place}
use Rattle.mx_lists.proofs.FittedLemmas.{parts_of_places}
use Rattle.mx_lists.proofs.life_list.parts_by_position.Goals as goal

pub returns : goal.returns
returns g c =
    done _ _ (then (first c.in_ok-places.ensures) c.in_ok-parts.ensures) (λ book is.
    c.in_ok-rows.ensures.order
    ∙ ap (in_order part_before) (is.1
    ∙ ap (filter_map (part_of_place book)) (c.as_slice.ensures.value ∙ is.0)
    ∙ parts_of_places book (filter (is_open_on c.args.tail.now) (spans book))))
