-- What the shape of a command says of its parts.
use Rattle.std.proofs.Common.{rules, arith, ◌≡◌, ◌≤◌, refl, List, ℕ, Bool, true, false, ◌&&◌, length, IfSome}
use Rattle.std.specs.List.{list_all}
use Rattle.std.proofs.lemmas.Bool.Decides.{nat_tests}
use Rattle.mx_book.specs.commands.Act.{Act, Loaded, Released, Deferred, Extended, tasks_of, programme_of, lines_of, deferral_of, extension_of}
use Rattle.mx_book.specs.commands.Bounds.{within, are_distinct}
use Rattle.mx_book.specs.commands.Programme.{task_shape, programme_shape, same_name_of_task}
use Rattle.mx_book.specs.commands.Shape.{has_shape, category_shape, doc_shape}
use Rattle.mx_book.specs.declared.commands.programme.Programme.{Programme}
use Rattle.mx_book.specs.declared.commands.programme.Task.{Task}

pub and_first : (p q : Bool) → p && q ≡ true → p ≡ true
and_first true q h = refl
and_first false q h = (cc)

pub and_second : (p q : Bool) → p && q ≡ true → q ≡ true
and_second true q h = h
and_second false q h = (cc)

pub both_true : (p q : Bool) → p && q ≡ true → (p ≡ true) × (q ≡ true)
both_true p q h = (and_first p q h, and_second p q h)

-- each task of a programme of its shape has its own
programme_tasks : (p : Programme) (tasks : List Task) → programme_shape p tasks ≡ true → list_all task_shape tasks ≡ true
programme_tasks p tasks h =
    let distinct = are_distinct same_name_of_task tasks in
    let few = and_second (within 1 1000000 p.revision) (within 1 500 (length tasks) && (list_all task_shape tasks && distinct)) h in
    and_first (list_all task_shape tasks) distinct (and_second (within 1 500 (length tasks)) (list_all task_shape tasks && distinct) few)

-- each task of a command of its shape has its own
pub tasks_shaped : (doc : List ℕ) (act : Act) → has_shape (record { doc = doc; act = act }) ≡ true → list_all task_shape (tasks_of act) ≡ true
tasks_shaped doc (Loaded p tasks) h = programme_tasks p tasks (and_first (programme_shape p tasks) (doc_shape doc (Loaded p tasks)) h)
tasks_shaped doc _ h = refl

revision_within : (n : ℕ) → within 1 1000000 n ≡ true → n ≤ 1000000
revision_within n h = grind (arith, nat_tests)

programme_revision : (p : Programme) (tasks : List Task) → programme_shape p tasks ≡ true → p.revision ≤ 1000000
programme_revision p tasks h = revision_within p.revision (and_first (within 1 1000000 p.revision) (within 1 500 (length tasks) && (list_all task_shape tasks && are_distinct same_name_of_task tasks)) h)

-- the revision that a command of its shape loads is within its bounds
pub revision_small : (doc : List ℕ) (act : Act) → has_shape (record { doc = doc; act = act }) ≡ true → IfSome (programme_of act) (λ p. p.revision ≤ 1000000)
revision_small doc (Loaded p tasks) h = programme_revision p tasks (and_first (programme_shape p tasks) (doc_shape doc (Loaded p tasks)) h)
revision_small doc _ h = search rules

count_within : (n : ℕ) → within 1 20 n ≡ true → n ≤ 20
count_within n h = grind (arith, nat_tests)

-- a command of its shape has few lines
pub lines_few : (doc : List ℕ) (act : Act) → has_shape (record { doc = doc; act = act }) ≡ true → length (lines_of act) ≤ 20
lines_few doc (Released r lines) h = count_within (length lines) (and_first (within 1 20 (length lines)) (doc_shape doc (Released r lines)) h)
lines_few doc _ h = search (rules, arith)

-- the category of a defect that a command of its shape defers has its own
pub category_shaped : (doc : List ℕ) (act : Act) → has_shape (record { doc = doc; act = act }) ≡ true → IfSome (deferral_of act) (λ d. category_shape d.category ≡ true)
category_shaped doc (Deferred d) h = and_first (category_shape d.category) (doc_shape doc (Deferred d)) h
category_shaped doc _ h = search rules

days_within : (n : ℕ) → within 1 120 n ≡ true → n ≤ 120
days_within n h = grind (arith, nat_tests)

-- the days that a command of its shape extends by are within their bounds
pub extension_small : (doc : List ℕ) (act : Act) → has_shape (record { doc = doc; act = act }) ≡ true → IfSome (extension_of act) (λ x. x.days ≤ 120)
extension_small doc (Extended x) h = days_within x.days (and_first (within 1 120 x.days) (doc_shape doc (Extended x)) h)
extension_small doc _ h = search rules
