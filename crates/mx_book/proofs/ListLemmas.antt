-- Tests that all of a list pass: what is found in it.
use Rattle.std.proofs.Common.{rules, ◌≡◌, ◌∙◌, ◌<◌, ℕ, sym, subst, ap, List, [], ◌∷◌, Bool, true, false, cond, Option, Some, IfSome, get_or, length}
use Rattle.std.specs.Prelude.{find}
use Rattle.std.specs.List.{list_all}
use Rattle.std.proofs.lemmas.List.Folds.{list_all_at}
use Rattle.mx_book.specs.commands.Programme.{task_shape}
use Rattle.mx_book.specs.declared.commands.programme.Task.{Task}
use Rattle.mx_book.proofs.CommandsProofs.ShapeLemmas.{both_true}

found_at : {X : Type 0} (p test : X → Bool) (x : X) (xs : List X) (b : Bool) → test x ≡ true → IfSome (find p xs) (λ y. test y ≡ true) → IfSome (cond b (Some x) (find p xs)) (λ y. test y ≡ true)
found_at p test x xs true h k = h
found_at p test x xs false h k = k

-- where all pass, so does one that is found
found_passes : {X : Type 0} (p test : X → Bool) (xs : List X) → list_all test xs ≡ true → IfSome (find p xs) (λ y. test y ≡ true)
found_passes p test [] h = search rules
found_passes p test (x ∷ xs) h =
    let both = both_true (test x) (list_all test xs) h in
    found_at p test x xs (p x) both.0 (found_passes p test xs both.1)

-- a task that is found among some of their shape has its shape
pub found_task : (p : Task → Bool) (tasks : List Task) (found : Option Task) → found ≡ find p tasks → list_all task_shape tasks ≡ true → IfSome found (λ t. task_shape t ≡ true)
found_task p tasks found e h = subst (λ (o : Option Task). IfSome o (λ t. task_shape t ≡ true)) (sym e) (found_passes p task_shape tasks h)

unless_false : (b : Bool) → (b ≡ false → false ≡ true) → b ≡ true
unless_false true h = λ _. true
unless_false false h = h (λ _. false)

-- where all pass, so does what is at a place of them
pub passes_at : {X : Type 0} (test : X → Bool) (xs : List X) → list_all test xs ≡ true → (x : X) (k : ℕ) → k < length xs → x ≡ get_or xs k x → test x ≡ true
passes_at test xs all x k low is = unless_false (test x) (λ no. sym (list_all_at test xs k x low (ap test (sym is) ∙ no)) ∙ all)
