use Rattle.std.proofs.Common.{◌≡◌, ◌∙◌, Err, false, sym, ap}
use Rattle.toml.specs.View.{items_view}
use Rattle.mx_book.specs.commands.Programme.{programme_shape}
use Rattle.mx_intake.proofs.ProgrammeLemmas.{few_values, if_distinct-not_shaped}
use Rattle.mx_intake.proofs.programme.programme_of_values.Goals as goal

pub tasks_of_values-requires : goal.tasks_of_values-requires
tasks_of_values-requires c = few_values c.args.programme c.args.values.now c.requires

pub returns-else-has_shape-clause-err : goal.returns-else-has_shape-clause-err
returns-else-has_shape-clause-err c _ =
    let shapeless : programme_shape c.args.programme c.in_ok-tasks.tasks.items ≡ false =
    ap (programme_shape c.args.programme) (sym c.as_slice.ensures.value) ∙ sym c.has_shape.ensures ∙ c.if-has_shape.false in
    if_distinct-not_shaped c.args.programme (items_view c.args.values.now) c.in_ok-tasks.tasks.items c.requires c.in_ok-tasks.ensures.ok shapeless
    ∙ ap Err (sym c.of_whole.ensures)
