-- What is told of a book where memory suffices.
use Rattle.std.proofs.Common.{◌≡◌, refl, subst, List}
use Rattle.std.specs.Prelude.{Result, Ok, Err, IfOk}
use Rattle.std.specs.declared.convert.Infallible.{Infallible}
use Rattle.mx_book.specs.commands.Act.{Entry}
use Rattle.mx_book.specs.declared.entry_list.book.NoMemory.{NoMemory}
use Rattle.mx_plain_book.specs.declared.plain.Plain.{Plain}
use Rattle.mx_plain_book.specs.Plain.{plain_reading}
use Rattle.mx_book.specs.Reading.{Answers}
use Rattle.mx_lists.specs.Memory.{with_memory}
use Rattle.mx_lists.specs.declared.stop.Stop.{Stop}

-- what a book answers where memory suffices
pub told : {A : Type 0} (old new : Plain) (answer : Result A (Stop Infallible)) (result : Result A NoMemory) (what : List Entry → A)
    → Answers (with_memory plain_reading) old new answer what → IfOk result (λ a. answer ≡ Ok a) → IfOk result (λ a. a ≡ what old.book.now)
told old new answer (Ok a) what h e =
    let k : Answers (with_memory plain_reading) old new (Ok a) what = subst (λ r. Answers (with_memory plain_reading) old new r what) e h in
    k.exact old old.book.now refl refl tt
told old new answer (Err none) what h e = tt
