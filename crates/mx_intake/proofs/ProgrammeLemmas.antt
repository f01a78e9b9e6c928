-- What a text of TOML reads as, what the values of its list give, and the shape of what is given.
use Rattle.std.proofs.Common.{◌≡◌, ◌≤◌, ◌+◌, ℕ, suc, List, [], ◌∷◌, length, Bool, true, false, ◌&&◌, ◌||◌, cond, Option, Some, None, is_some, option_map, Result, Ok, Err, BTreeMap, refl, sym, ap, ◌∙◌, arith}
use Rattle.std.proofs.lemmas.Bool.{and_parts}
use Rattle.std.proofs.lemmas.Bool.Decides.{nat_tests}
use Rattle.std.specs.Prelude.{String}
use Rattle.std.specs.List.{list_all}
use Rattle.std.specs.declared.alloc.Global.{Global}
use Rattle.toml.specs.Data.{Data, table, Items, no_items, item, as_table}
use Rattle.toml.specs.Parse.{parse_document}
use Rattle.toml.specs.View.{view, items_view, table_view}
use Rattle.toml.specs.declared.value.Value.{Value, Table}
use Rattle.toml.proofs.Views.{view-Table}
use Rattle.mx_book.specs.commands.Programme.{task_shape, same_name_of_task, programme_shape}
use Rattle.mx_book.specs.commands.Bounds.{within, are_distinct}
use Rattle.mx_book.specs.declared.commands.programme.Programme.{Programme}
use Rattle.mx_book.specs.declared.commands.programme.Task.{Task}
use Rattle.mx_intake.specs.Fault.{fault}
use Rattle.mx_intake.specs.Form.{by_form}
use Rattle.mx_intake.specs.ProgrammeText.{top_shape, tasks_from, if_distinct, table_of_document, table_of_text}
use Rattle.mx_intake.specs.Sequence.{given_before}
use Rattle.mx_intake.specs.Table.{lacks_key, has_other_key, items_len}
use Rattle.mx_intake.specs.Tasks.{needed_task_keys, task_keys, has_other_limit_key, stated_task, task_by_toml, task_form}
use Rattle.mx_intake.specs.Text.{text_of_bytes}
use Rattle.mx_intake.specs.declared.fault.IntakeFault.{IntakeFault}
use Rattle.mx_intake.proofs.ReadingLemmas.{reading_of-read, reading_of-refused, reading_of-fault}
use Rattle.mx_intake.proofs.TableLemmas.{items_len-items_view}

-- ── reading ──

pub table_of_text-read : (bs text : List ℕ) (m : BTreeMap (String Global) Value) → text_of_bytes bs ≡ Ok text → parse_document text ≡ Some (table_view m) → table_of_text bs ≡ Ok (view (Table m))
unfolding table_of_text
table_of_text-read bs text m e h =
    reading_of-read table_of_document (text_of_bytes bs) text (view (Table m)) e (ap (option_map table) h ∙ ap Some (sym (view-Table m)))

pub table_of_text-refused : (bs text : List ℕ) → text_of_bytes bs ≡ Ok text → parse_document text ≡ None → table_of_text bs ≡ Err (fault 61 0)
unfolding table_of_text
table_of_text-refused bs text e h = reading_of-refused table_of_document (text_of_bytes bs) text e (ap (option_map table) h)

pub table_of_text-fault : (bs : List ℕ) (f : IntakeFault) → text_of_bytes bs ≡ Err f → table_of_text bs ≡ Err f
unfolding table_of_text
table_of_text-fault bs f e = reading_of-fault table_of_document (text_of_bytes bs) f e

-- ── the shape of what is given ──

shaped_at : {A : Type 0} (shape : A → Bool) (a t : A) (b : Bool) → shape a ≡ b → cond {A = Result A ℕ} b (Ok a) (Err 65) ≡ Ok t → shape t ≡ true
shaped_at shape a t true s h = let same : a ≡ t = cc in ap shape (sym same) ∙ s
shaped_at shape a t false s h = absurd (cc)

by_form-shaped : {A : Type 0} (shape : A → Bool) (lacks : Bool) (stated : Option A) (other : Bool) (t : A) → by_form shape lacks stated other ≡ Ok t → shape t ≡ true
by_form-shaped shape true stated other t h = absurd (cc)
by_form-shaped shape false None other t h = absurd (cc)
by_form-shaped shape false (Some a) true t h = absurd (cc)
by_form-shaped shape false (Some a) false t h = shaped_at shape a t (shape a) refl h

ok_then : {A : Type 0} (b : Bool) (r : Result A ℕ) (t : A) → cond b r (Err 63) ≡ Ok t → r ≡ Ok t
ok_then true r t h = h
ok_then false r t h = absurd (cc)

task_is_shaped : (d : Data) (t : Task) → task_by_toml d ≡ Ok t → task_shape t ≡ true
task_is_shaped d t h =
    by_form-shaped task_shape (lacks_key needed_task_keys d) (stated_task d) (has_other_key task_keys d || has_other_limit_key d) t
    (ok_then (is_some (as_table d)) (task_form d) t h)

-- what an entry gives together with those behind it
record IsGiven (r : Result Task ℕ) (rest : Result (List Task) IntakeFault) (tasks : List Task) : Type 0 where
  task : Task
  more : List Task
  here : r ≡ Ok task
  behind : rest ≡ Ok more
  both : tasks ≡ task ∷ more

given_parts : (place : ℕ) (r : Result Task ℕ) (rest : Result (List Task) IntakeFault) (tasks : List Task) → given_before place r rest ≡ Ok tasks → IsGiven r rest tasks
given_parts place (Ok t) (Ok more) tasks h = record { task = t; more = more; here = refl; behind = refl; both = cc }
given_parts place (Ok t) (Err f) tasks h = absurd (cc)
given_parts place (Err n) rest tasks h = absurd (cc)

-- each task that is given has its shape, and there is one for each value
pub tasks_from-shaped : (place : ℕ) (ds : Items) (tasks : List Task) → tasks_from place ds ≡ Ok tasks → (list_all task_shape tasks ≡ true) × (length tasks ≡ items_len ds)
tasks_from-shaped place no_items tasks h = let none : tasks ≡ [] = cc in (ap (list_all task_shape) none, ap length none)
tasks_from-shaped place (item d ds) tasks h =
    let parts = given_parts place (task_by_toml d) (tasks_from (place + 1) ds) tasks h in
    let later = tasks_from-shaped (place + 1) ds parts.more parts.behind in
    let first : task_shape parts.task ≡ true = task_is_shaped d parts.task parts.here in (
      ap (list_all task_shape) parts.both ∙ ap (λ b. b && list_all task_shape parts.more) first ∙ later.0,
      ap length parts.both ∙ ap suc later.1,
    )

-- ── the shape of the top ──

at_most : (n : ℕ) → within 1 500 n ≡ true → n ≤ 500
at_most n h = grind (arith, nat_tests)

-- the shape of a top, by how many values are its tasks
pub top_shape-items_view : (p : Programme) (vs : List Value) → top_shape (p, items_view vs) ≡ (within 1 1000000 p.revision && within 1 500 (length vs))
top_shape-items_view p vs = ap (λ n. within 1 1000000 p.revision && within 1 500 n) (items_len-items_view vs)

-- a top of its shape has few tasks
pub few_values : (p : Programme) (vs : List Value) → top_shape (p, items_view vs) ≡ true → length vs ≤ 500
few_values p vs top =
    at_most (length vs) (and_parts (within 1 1000000 p.revision) (within 1 500 (length vs)) (sym (top_shape-items_view p vs) ∙ top)).1

-- tasks that are given to a top of its shape make a programme where their names are distinct
pub shape_is_distinct : (p : Programme) (ds : Items) (tasks : List Task) → top_shape (p, ds) ≡ true → tasks_from 1 ds ≡ Ok tasks → programme_shape p tasks ≡ are_distinct same_name_of_task tasks
shape_is_distinct p ds tasks top given =
    let parts = and_parts (within 1 1000000 p.revision) (within 1 500 (items_len ds)) top in
    let tasks_are = tasks_from-shaped 1 ds tasks given in
    let few : within 1 500 (length tasks) ≡ true = ap (within 1 500) tasks_are.1 ∙ parts.1 in
    ap (λ b. b && (within 1 500 (length tasks) && (list_all task_shape tasks && are_distinct same_name_of_task tasks))) parts.0
    ∙ ap (λ b. b && (list_all task_shape tasks && are_distinct same_name_of_task tasks)) few
    ∙ ap (λ b. b && are_distinct same_name_of_task tasks) tasks_are.0

-- tasks whose programme lacks its shape have a name twice
pub if_distinct-not_shaped : (p : Programme) (ds : Items) (tasks : List Task) → top_shape (p, ds) ≡ true → tasks_from 1 ds ≡ Ok tasks → programme_shape p tasks ≡ false → if_distinct p (tasks_from 1 ds) ≡ Err (fault 65 0)
if_distinct-not_shaped p ds tasks top given shaped =
    ap (if_distinct p) given ∙ ap (λ b. cond b (Ok (p, tasks)) (Err (fault 65 0))) (sym (shape_is_distinct p ds tasks top given) ∙ shaped)
