use Rattle.std.proofs.Common.{rules, ◌∙◌, ap, Some}
use Rattle.mx_lists.specs.DueList.{due_list}
use Rattle.mx_promise.proofs.PrintLemmas.{handed, listed, unlisted}
use Rattle.mx_promise.proofs.again.print_due.Goals as goal

pub returns-in-Ok-clause-printed : goal.returns-in-Ok-clause-printed
returns-in-Ok-clause-printed g c own settled book ready stands clean =
    listed (due_list book c.args.tail.now c.args.day) _ (c.in_ok-list.ensures.answered.exact own settled book ready stands clean) ∙ ap Some (search rules)

pub returns-in_err-list-clause-printed : goal.returns-in_err-list-clause-printed
returns-in_err-list-clause-printed g c own settled book ready stands clean =
    handed book c.args.tail.now c.args.day c.from_residual.result _ c.from_residual.ensures.1 (unlisted book c.args.tail.now c.args.day _ (c.in_err-list.ensures.answered.exact own settled book ready stands clean))
