use Rattle.std.proofs.Common.{◌∙◌}
use Rattle.mx_row_rules.specs.found.Given as registers
use Rattle.mx_lookups.proofs.NumbersProofs.BookRows.{tasks_of}
use Rattle.mx_lookups.proofs.NumbersProofs.Composed.{chosen, hands}
use Rattle.mx_lookups.proofs.NumbersProofs.TableLemmas.{tasks}
use Rattle.mx_row_judge.proofs.KnownProofs.KnownLemmas.{rows_tell}
use Rattle.mx_row_judge.proofs.known.kinds.are_tasks.Goals as goal

pub returns-in_err-rows : goal.returns-in_err-rows
returns-in_err-rows g c = record { looks_up = hands c.from_residual.ensures.1 (λ _ _ it. it) (chosen tasks c.in_err-rows.ensures.same_reference (tasks_of _ c.in_err-rows.ensures.reads) c.in_err-rows.ensures.reads) }

pub returns : goal.returns
returns g c = record { looks_up = rows_tell tasks registers.tasks c.args.seq c.in_ok-rows.ensures.same_reference (tasks_of _ c.in_ok-rows.ensures.reads) c.in_ok-rows.ensures.reads c.deref.ensures.value (c.deref-2.ensures.value ∙ c.in_ok-given.ensures.rows) c.are_same_tasks.ensures }
