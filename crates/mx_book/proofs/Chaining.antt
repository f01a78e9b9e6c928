-- One question behind another.
use Rattle.std.proofs.Common.{◌≡◌, ◌∙◌, List}
use Rattle.std.specs.Prelude.{Result, Ok, Err}
use Rattle.mx_book.specs.commands.Act.{Entry}
use Rattle.mx_book.specs.Reading.{Reading, Answers}

-- where a question was answered, the next answers for both
pub after : {S F A B : Type 0} {r : Reading S F} {old mid new : S} {a : A} {first_is : List Entry → A} (result : Result B F) (then_is what : List Entry → B)
    → Answers r old mid (Ok a) first_is → Answers r mid new result then_is → ((book : List Entry) → a ≡ first_is book → then_is book ≡ what book) → Answers r old new result what
after (Ok b) then_is what first second step = record {
  asked = λ start h. second.asked start (first.asked start h);
  clean = λ k. first.clean (second.clean k);
  exact = λ start book s h k. second.exact start book s (first.asked start h) k ∙ step book (first.exact start book s h (second.clean k));
}
after (Err fault) then_is what first second step = record {
  asked = λ start h. second.asked start (first.asked start h);
  clean = λ k. tt;
  exact = λ start book s h k. tt;
}

-- questions were asked and answered, and this was learnt of each book that the records stood for
pub record Learns {S F : Type 0} (r : Reading S F) (old new : S) (Is : List Entry → Type 0) : Type 0 where
  -- no question stopped
  pub asked : (start : S) → r.Asked start old → r.Asked start new
  -- where the disk is clean behind them, it was before
  pub clean : r.Clean new → r.Clean old
  -- what was learnt
  pub so : (start : S) (book : List Entry) → r.StandsFor start book → r.Asked start old → r.Clean new → Is book

-- the first question
pub first : {S F A : Type 0} {r : Reading S F} {old new : S} {a : A} {what : List Entry → A} → Answers r old new (Ok a) what → Learns r old new (λ book. a ≡ what book)
first h = record { asked = h.asked; clean = h.clean; so = h.exact }

-- one more
pub then : {S F A : Type 0} {r : Reading S F} {old mid new : S} {a : A} {what : List Entry → A} {Is : List Entry → Type 0}
    → Learns r old mid Is → Answers r mid new (Ok a) what → Learns r old new (λ book. Is book × (a ≡ what book))
then had h = record {
  asked = λ start s. h.asked start (had.asked start s);
  clean = λ k. had.clean (h.clean k);
  so = λ start book s h' k. (had.so start book s h' (h.clean k), h.exact start book s (had.asked start h') k);
}

-- what is worked out of all that was learnt
pub done : {S F A : Type 0} {r : Reading S F} {old new : S} {Is : List Entry → Type 0} (a : A) (what : List Entry → A)
    → Learns r old new Is → ((book : List Entry) → Is book → a ≡ what book) → Answers r old new (Ok a) what
done a what had step = record { asked = had.asked; clean = had.clean; exact = λ start book s h k. step book (had.so start book s h k) }
