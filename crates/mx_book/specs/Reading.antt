-- What an answer of records says of the book that they stand for.
use Rattle.std.specs.Prelude.{⊤, ◌≡◌, List, Result, IfOk, OnOk, MatchResult}
use Rattle.mx_book.specs.commands.Act.{Entry}

-- how records of a type are read: which book they stand for, what questions leave of them, and why one is not answered
pub record Reading (S F : Type 0) : Type 1 where
  -- the disk gave back what was written until then
  pub Clean : S → Type 0
  -- which book they stand for, where it did
  pub StandsFor : S → List Entry → Type 0
  -- they came from others by questions alone
  pub Asked : S → S → Type 0
  -- a question of those others was not answered, for this reason, and left them so
  pub Stopped : S → S → F → Type 0

-- what was asked before goes on, or stopped here
abbrev pub GoesOn : {S F A : Type 0} → Reading S F → S → S → Result A F → Type 0
GoesOn {S = S} r old new result = (start : S) → r.Asked start old → MatchResult result (λ a. r.Asked start new) (r.Stopped start new)

-- a question was answered, where the disk is clean behind it, by what is so in each book that the records stood for before the first question
pub record Answers {S F A : Type 0} (r : Reading S F) (old new : S) (result : Result A F) (what : List Entry → A) : Type 0 where
  -- records that came from others by questions alone do so still, or stopped here
  pub asked : GoesOn r old new result
  -- where the disk is clean behind an answer, it was before
  pub clean : r.Clean new → OnOk result (r.Clean old)
  -- and the answer is what is so in the book
  pub exact : (start : S) (book : List Entry) → r.StandsFor start book → r.Asked start old → r.Clean new → IfOk result (λ a. a ≡ what book)

-- records that are read in place, and are never disks: each stands for its own entries, no question changes it, and none stops
abbrev pub in_place : {S F : Type 0} → (S → List Entry) → Reading S F
in_place entries = record {
  Clean = λ records. ⊤;
  StandsFor = λ records book. entries records ≡ book;
  Asked = λ start records. entries start ≡ entries records;
  Stopped = λ start records fault. ⊥;
}
