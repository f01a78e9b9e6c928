use Rattle.mx_row_rules.proofs.FoundProofs.ProgrammeLemmas.{task_is, tasks_are, tasks_shaped}
use Rattle.mx_row_rules.proofs.found.programmes.tasks_are_found.Goals as goal

pub returns : goal.returns
returns c = record { tasks = λ book kind b. tasks_are kind book b; task = λ book kind id b. task_is kind book id b; shape = tasks_shaped }
