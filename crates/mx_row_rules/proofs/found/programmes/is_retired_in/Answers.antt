use Rattle.std.proofs.Common.{rules}
use Rattle.std.proofs.lemmas.Iterator.{YieldsList-from_slice}
use Rattle.std.proofs.lemmas.Iterator.Adapters.{serves_from_places}
use Rattle.mx_base.specs.declared.rows.rows.TaskRow.{TaskRow}
use Rattle.mx_book.proofs.ListLemmas.{passes_at}
use Rattle.mx_book.specs.commands.Programme.{task_shape}
use Rattle.mx_registers.specs.Merge.{task_said}
use Rattle.mx_row_rules.proofs.found.programmes.is_retired_in.Goals as goal

pub any-requires-clause-callable : goal.any-requires-clause-callable
any-requires-clause-callable c =
    serves_from_places (YieldsList-from_slice c.args.rows.now cc) (λ x q r. search rules)
    (λ x k low is. let shaped = passes_at (λ (row : TaskRow). task_shape (task_said row)) c.args.rows.now c.requires x.now k low is in search rules)
