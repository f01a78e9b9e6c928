use Rattle.std.proofs.Common.{ap, ◌∙◌}
use Rattle.std.specs.List.{flat_map}
use Rattle.mx_book.proofs.Chaining.{first, then, done}
use Rattle.mx_lists.specs.Fleet.{all_open, rows_among, rows_of_one}
use Rattle.mx_lists.specs.Order.{in_order, text_before}
use Rattle.mx_lists.proofs.fleet_lists.rows_of_all.Goals as goal

pub returns : goal.returns
returns g c =
    done _ _ (then (then (first c.in_ok-known.ensures) c.in_ok-defects.ensures) c.in_ok-all.ensures) (λ book is.
    c.in_ok-rows.ensures.order
    ∙ ap (in_order _) (is.1
    ∙ ap (λ ds. flat_map (rows_of_one (rows_among (g.A.OfEach.rows_of c.args.asked.now book) book ds)) c.as_slice-2.result.now) (c.as_slice.ensures.value ∙ is.0.1)
    ∙ ap (flat_map (rows_of_one (rows_among (g.A.OfEach.rows_of c.args.asked.now book) book (all_open book)))) (c.as_slice-2.ensures ∙ c.in_ok-tails.ensures.order ∙ ap (in_order text_before) is.0.0)))
