-- Questions of a book that are counted.
use Rattle.std.proofs.Common.{ℕ, ap, arith, refl, sym, subst, ◌∙◌, ◌≡◌, List}
use Rattle.std.specs.Prelude.{Result, Ok, Err, MatchResult}
use Rattle.std.specs.declared.convert.Infallible.{Infallible}
use Rattle.mx_book.specs.commands.Act.{Entry}
use Rattle.mx_lists.specs.Memory.{StopsBy, with_memory}
use Rattle.mx_plain_book.specs.Plain.{plain_reading}
use Rattle.mx_book.specs.Reading.{Answers}
use Rattle.mx_plain_book.specs.declared.plain.Plain.{Plain}
use Rattle.mx_lists.specs.declared.stop.Stop.{Stop}
use Rattle.mx_lists.specs.declared.stop.Stop.TheVariants.{NoMemory, Fault}
use Rattle.mx_test_book.specs.Failing.{ReadOn, IsStop, failing_reading}
use Rattle.mx_test_book.specs.declared.failing.Failing.{Failing}
use Rattle.mx_test_book.specs.declared.failing.Interrupted.{Interrupted}

module _ {A : Type 0} (old new : Failing) (plain next : Plain) (a : A) (what : List Entry → A) where
  -- where a question is left, it is answered by the plain book
  pub counted : (answer : Result A Infallible) → ((start : Failing) → ReadOn start old → ReadOn start new) → plain.book.now ≡ new.book.now
      → Answers plain_reading plain next answer what → answer ≡ Ok a → Answers failing_reading old new (Ok a) what
  counted answer asked same h is =
      let k : Answers plain_reading plain next (Ok a) what = subst (λ r. Answers plain_reading plain next r what) is h in
      record {
        asked = asked;
        clean = λ clean. tt;
        exact = λ start book stands from clean. k.exact plain book (same ∙ sym (asked start from).book ∙ stands) refl tt;
      }

  -- the same where memory did not run out
  pub counted_with : ((start : Failing) → ReadOn start old → ReadOn start new) → plain.book.now ≡ new.book.now
      → Answers (with_memory plain_reading) plain next (Ok a) what → Answers (with_memory failing_reading) old new (Ok a) what
  counted_with asked same k = record {
    asked = asked;
    clean = λ clean. tt;
    exact = λ start book stands from clean. k.exact plain book (same ∙ sym (asked start from).book ∙ stands) refl tt;
  }

-- records that were not asked yet
pub unasked : (s : Failing) → ReadOn s s
unasked s = record { book = refl; code = refl; left = omega arith }

-- what stopped them is want of memory, or the fault in wait
pub waited : (start new : Failing) (stop : Stop Interrupted) → StopsBy failing_reading start new stop → IsStop start.code stop
waited start new NoMemory h = tt
waited start new (Fault fault) h = h.told

module _ {A : Type 0} (start new : Failing) (what : List Entry → A) where
  -- what comes of records that were not asked before
  pub ends : (result : Result A (Stop Interrupted)) → Answers (with_memory failing_reading) start new result what
      → MatchResult result (λ a. a ≡ what start.book.now) (IsStop start.code)
  ends (Ok a) k = k.exact start start.book.now refl (unasked start) tt
  ends (Err stop) k = waited start new stop (k.asked start (unasked start))

  -- the same of questions that take no memory
  pub ends_alone : (result : Result A Interrupted) → Answers failing_reading start new result what
      → MatchResult result (λ a. a ≡ what start.book.now) (λ fault. fault ≡ record { code = start.code })
  ends_alone (Ok a) k = k.exact start start.book.now refl (unasked start) tt
  ends_alone (Err fault) k = ap coded (k.asked start (unasked start)).told
    where
      coded : ℕ → Interrupted
      coded n = record { code = n }
