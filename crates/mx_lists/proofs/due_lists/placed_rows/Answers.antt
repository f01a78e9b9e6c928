use Rattle.std.proofs.Common.{ap, ◌∙◌, refl, None}
use Rattle.std.specs.List.{flat_map}
use Rattle.mx_book.specs.declared.commands.item.Item.TheVariants.{Airframe}
use Rattle.mx_book.proofs.Chaining.{first, then, done}
use Rattle.mx_lists.specs.DueList.{tasks_by_name, rows_of_item, rows_of_part}
use Rattle.mx_lists.proofs.Gathering.{three}
use Rattle.mx_lists.proofs.due_lists.placed_rows.Goals as goal

pub returns : goal.returns
returns g c =
    done _ _ (then (then (then (then (first c.in_ok-tasks.ensures.answers) c.in_ok-parts.ensures) c.in_ok-append_item.ensures) c.in_ok-append_parts.ensures) c.in_ok-append_defects.ensures)
    (λ book is.
    three _ _ _ _ _ _ _ _ _ _ c.new-rows.ensures.items is.0.0.1 is.0.1 is.1
    (ap (λ ts. rows_of_item book c.args.day ts (Airframe c.args.tail.now) None) (c.as_slice.ensures ∙ is.0.0.0.0))
    (ap (λ ts. flat_map (rows_of_part book c.args.day ts) c.as_slice-3.result.now) (c.as_slice-2.ensures ∙ is.0.0.0.0)
    ∙ ap (flat_map (rows_of_part book c.args.day (tasks_by_name book c.args.kind.now))) (c.as_slice-3.ensures ∙ is.0.0.0.1))
    refl)
