-- Loops that ask records for each of some values.
use Rattle.std.proofs.Common.{◌≡◌, List, Ok}
use Rattle.mx_book.specs.commands.Act.{Entry}
use Rattle.mx_book.specs.Reading.{Reading, Answers}

-- records were asked, and what is had with what is left is the whole, in each book that they stood for
pub record Gathers {S F X : Type 0} (r : Reading S F) (first records : S) (left whole : List Entry → X) : Type 0 where
  -- no question stopped
  pub asked : (start : S) → r.Asked start first → r.Asked start records
  -- where the disk is clean behind them, it was before
  pub clean : r.Clean records → r.Clean first
  -- what is had with what is left is the whole
  pub exact : (start : S) (book : List Entry) → r.StandsFor start book → r.Asked start first → r.Clean records → left book ≡ whole book

-- one value more was asked for
pub goes_on : {S F X A : Type 0} {r : Reading S F} {first records next : S} {left fewer whole : List Entry → X} {a : A} {what : List Entry → A}
    → Gathers r first records left whole → Answers r records next (Ok a) what
    → ((book : List Entry) → a ≡ what book → left book ≡ whole book → fewer book ≡ whole book) → Gathers r first next fewer whole
goes_on so had step = record {
  asked = λ start h. had.asked start (so.asked start h);
  clean = λ k. so.clean (had.clean k);
  exact = λ start book s h k. step book (had.exact start book s (so.asked start h) k) (so.exact start book s h (had.clean k));
}

-- all were asked for
pub gathered : {S F X : Type 0} {r : Reading S F} {first records : S} {left whole : List Entry → X}
    → Gathers r first records left whole → (all : X) → ((book : List Entry) → left book ≡ whole book → all ≡ whole book) → Answers r first records (Ok all) whole
gathered so all step = record { asked = so.asked; clean = so.clean; exact = λ start book s h k. step book (so.exact start book s h k) }
