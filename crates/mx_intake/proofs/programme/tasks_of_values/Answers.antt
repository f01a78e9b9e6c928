use Rattle.std.proofs.Common.{refl, ◌≡◌, ◌∙◌, [], ◌∷◌, ◌++◌, Err, arith, sym, ap, rules}
use Rattle.mx_intake.specs.Fault.{fault}
use Rattle.mx_intake.specs.ProgrammeText.{tasks_from}
use Rattle.mx_intake.specs.Tasks.{task_by_toml}
use Rattle.toml.specs.View.{view, items_view}
use Rattle.mx_intake.proofs.SequenceLemmas.{given_next, given_faulty}
use Rattle.mx_intake.proofs.programme.tasks_of_values.Goals as goal

pub returns-in_err-task-clause-err : goal.returns-in_err-task-clause-err
returns-in_err-task-clause-err c =
    let passed : c.from_residual.result ≡ Err c.in_err-task.field-0.0 = search rules in
    rw passed (λ other.
    given_faulty (λ place vs. tasks_from place (items_view vs)) (λ v. task_by_toml (view v)) (λ place v vs. refl)
    c.args.values.now c.loop-i.tasks.items c.loop-i.i c.index-values-i.result c.in_err-task.field-0.0.number
    (omega arith) c.index-values-i.is c.in_err-task.ensures.err c.loop-i.invariant
    ∙ ap (λ n. Err (fault c.in_err-task.field-0.0.number n)) (sym c.in_err-task.ensures.entry))

pub loop-i-preserved : goal.loop-i-preserved
loop-i-preserved c =
    let appended : c.push.new.self.items ≡ c.loop-i.tasks.items ++ c.in_ok-task.task ∷ [] = search rules in
    rw appended (given_next (λ place vs. tasks_from place (items_view vs)) (λ v. task_by_toml (view v)) (λ place v vs. refl)
    c.args.values.now c.loop-i.tasks.items c.loop-i.i c.index-values-i.result c.in_ok-task.task
    (omega arith) c.index-values-i.is c.in_ok-task.ensures.ok c.loop-i.invariant)
