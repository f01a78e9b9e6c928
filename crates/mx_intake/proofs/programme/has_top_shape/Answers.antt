use Rattle.std.proofs.Common.{◌∙◌, sym}
use Rattle.mx_intake.proofs.ProgrammeLemmas.{top_shape-items_view}
use Rattle.mx_intake.proofs.programme.has_top_shape.Goals as goal

pub returns : goal.returns
returns c = c.are_within_bounds.ensures ∙ sym (top_shape-items_view c.args.programme.now c.args.tasks.now)
