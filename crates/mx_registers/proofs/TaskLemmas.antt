-- A task and its row: each says the other, where a repeat of the task has a dimension.
use Rattle.std.proofs.Common.{◌≡◌, ℕ, ◌≤◌, List, [], ◌∷◌, length, true, cond, Option, Some, None, refl, ap, ◌∙◌, arith}
use Rattle.std.specs.Prelude.{unwrap_or, nat_le}
use Rattle.std.specs.List.{list_all, AllByRecursion}
use Rattle.std.specs.Option.{option_map_or}
use Rattle.std.proofs.lemmas.Bool.Decides.{nat_tests}
use Rattle.mx_base.specs.declared.amounts.Limit.{Limit}
use Rattle.mx_book.specs.commands.Act.{Act, Loaded, tasks_of}
use Rattle.mx_book.specs.commands.Bounds.{within}
use Rattle.mx_book.specs.commands.Programme.{has_dimension, limit_shape, task_shape, programme_shape}
use Rattle.mx_book.specs.commands.Shape.{act_shape, doc_shape, has_shape}
use Rattle.mx_book.specs.declared.commands.programme.Applies.{Applies}
use Rattle.mx_book.specs.declared.commands.programme.Applies.TheVariants.{Airframe, Part}
use Rattle.mx_book.specs.declared.commands.programme.Programme.{Programme}
use Rattle.mx_book.specs.declared.commands.programme.Task.{Task}
use Rattle.mx_book.proofs.JudgeLemmas.{both_true}
use Rattle.mx_base.specs.declared.rows.rows.TaskRow.{TaskRow}
use Rattle.mx_registers.specs.Registers.{no_limit, part_of, task_row}
use Rattle.mx_registers.specs.Merge.{applies_said, limit_said, task_said, task_lines}
use Rattle.mx_registers.proofs.TakeLemmas.{AreOnLines, AreOfLines, IsSaid, same_some}

-- ── the row of what a row says ──

part_again : (part : Option (List ℕ)) → part ≡ part_of (applies_said part)
part_again None = refl
part_again (Some part) = refl

abbrev limit_of : Option ℕ → Option ℕ → Option ℕ → Limit
limit_of minutes cycles days = record { minutes = minutes; cycles = cycles; days = days }

-- a limit in no dimension stands for none, and every other for itself
limit_again : (minutes cycles days : Option ℕ) → limit_of minutes cycles days ≡ unwrap_or (limit_said (limit_of minutes cycles days)) no_limit
limit_again None None None = refl
limit_again None None (Some days) = refl
limit_again None (Some cycles) days = refl
limit_again (Some minutes) cycles days = refl

row_again : (row : TaskRow) → row ≡ task_row row.seq row.line (task_said row)
row_again row i = record row { part = part_again row.part i; repeat = limit_again row.repeat.minutes row.repeat.cycles row.repeat.days i }

pub tasks_on_lines : AreOnLines task_lines task_row
tasks_on_lines = record { entry_is = λ seq line t. refl; line_is = λ seq line t. refl }

pub tasks_of_rows : AreOfLines task_lines task_row
tasks_of_rows = record { row_is = λ row t said. row_again row ∙ ap (task_row row.seq row.line) (same_some said) }

-- ── what the row of a task says ──

applies_again : (applies : Applies) → applies_said (part_of applies) ≡ applies
applies_again Airframe = refl
applies_again (Part part) = refl

repeat_again : (repeat : Option Limit) → option_map_or limit_shape repeat true ≡ true → limit_said (unwrap_or repeat no_limit) ≡ repeat
repeat_again None h = refl
repeat_again (Some limit) h = ap (λ b. cond b (Some limit) None) (both_true (has_dimension limit) _ h).0

task_again : (t : Task) → task_shape t ≡ true → IsSaid task_lines task_row t
task_again t h seq line =
    let repeats = (both_true (option_map_or limit_shape t.repeat true) _ (both_true (limit_shape t.first) _ h).1).0 in
    λ i. Some (record t { applies = applies_again t.applies i; repeat = repeat_again t.repeat repeats i })

-- the rows of tasks of their shape say them
tasks_again : (tasks : List Task) → list_all task_shape tasks ≡ true → AllByRecursion (IsSaid task_lines task_row) tasks
tasks_again [] h = tt
tasks_again (t ∷ tasks) h = let both = both_true (task_shape t) (list_all task_shape tasks) h in (task_again t both.0, tasks_again tasks both.1)

-- ── a programme of its shape ──

shape_of : (p : Programme) (tasks : List Task) → programme_shape p tasks ≡ true → (within 1 500 (length tasks) ≡ true) × (list_all task_shape tasks ≡ true)
shape_of p tasks h =
    let few = both_true (within 1 500 (length tasks)) _ (both_true (within 1 1000000 p.revision) _ h).1 in
    (few.0, (both_true (list_all task_shape tasks) _ few.1).0)

shape_of_loaded : (doc : List ℕ) (p : Programme) (tasks : List Task) → has_shape (record { doc = doc; act = Loaded p tasks }) ≡ true → programme_shape p tasks ≡ true
shape_of_loaded doc p tasks h = (both_true (act_shape (Loaded p tasks)) (doc_shape doc (Loaded p tasks)) h).0

-- the rows of a programme's tasks say them
pub tasks_said : (doc : List ℕ) (p : Programme) (tasks : List Task) → has_shape (record { doc = doc; act = Loaded p tasks }) ≡ true → AllByRecursion (IsSaid task_lines task_row) tasks
tasks_said doc p tasks h = tasks_again tasks (shape_of p tasks (shape_of_loaded doc p tasks h)).1

few_by : (n : ℕ) → within 1 500 n ≡ true → n ≤ 500
few_by n h = let most = (both_true (nat_le 1 n) (nat_le n 500) h).1 in grind (arith, nat_tests)

-- an entry has at most 500 tasks
pub tasks_few : (doc : List ℕ) (act : Act) → has_shape (record { doc = doc; act = act }) ≡ true → length (tasks_of act) ≤ 500
tasks_few doc (Loaded p tasks) h = few_by (length tasks) (shape_of p tasks (shape_of_loaded doc p tasks h)).0
tasks_few doc _ h = omega arith
