-- A book as records whose questions run out.
use Rattle.std.specs.Prelude.{◌≡◌, ◌≤◌, ℕ, ⊤}
use Rattle.mx_book.specs.Reading.{Reading}
use Rattle.mx_lists.specs.declared.stop.Stop.{Stop}
use Rattle.mx_lists.specs.declared.stop.Stop.TheVariants.{NoMemory, Fault}
use Rattle.mx_test_book.specs.declared.failing.Failing.{Failing}
use Rattle.mx_test_book.specs.declared.failing.Interrupted.{Interrupted}

-- the same book with the same fault in wait, and no more questions left
pub record ReadOn (start records : Failing) : Type 0 where
  -- it is the same book
  pub book : start.book.now ≡ records.book.now
  -- and the same fault
  pub code : start.code ≡ records.code
  -- no question comes back
  pub left : records.left ≤ start.left

-- all questions were asked, and the fault is the one in wait
pub record GaveOut (start records : Failing) (fault : Interrupted) : Type 0 where
  -- what is left is the same book with the same fault
  pub read : ReadOn start records
  -- no question is left
  pub none : records.left ≡ 0
  -- the fault is told
  pub told : fault.code ≡ start.code

-- a book stands for its own entries; questions are counted, and the first past the last stops
abbrev pub failing_reading : Reading Failing Interrupted
failing_reading = record {
  Clean = λ records. ⊤;
  StandsFor = λ records book. records.book.now ≡ book;
  Asked = ReadOn;
  Stopped = GaveOut;
}

-- memory ran out, or it is the fault with this code
abbrev pub IsStop : ℕ → Stop Interrupted → Type 0
IsStop code NoMemory = Unit {0}
IsStop code (Fault fault) = fault.code ≡ code
