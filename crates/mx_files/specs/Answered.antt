-- What is said of a word over a file, whatever the file holds: of what was printed alone.
use Rattle.std.specs.Prelude.{◌≡◌, ◌≤◌, ◌++◌, ℕ, List, Result, OnErr, IfOk, IfErr, codes}
use Rattle.mx_output.specs.endings.Status.{LeavesUnread, Shows, stop_status}
use Rattle.mx_output.specs.declared.endings.ending.Ending.{Ending}
use Rattle.mx_output.specs.declared.endings.ending.Ending.TheVariants.{Done}
use Rattle.mx_output.specs.declared.endings.ending.Stop.{Stop}

-- a text was appended that is right for how the word ended; where it was stopped the status is at least so much, and nothing was appended where the input file gave nothing
pub record Answers (IsRight : List ℕ → Ending → Type 0) (least : ℕ) (old new : List ℕ) (result : Result Ending Stop) : Type 0 where
  pub shown : IfOk result (Shows IsRight old new)
  pub unread : IfErr result (LeavesUnread old new)
  pub status : IfErr result (λ stop. least ≤ stop_status stop)

-- the line of a book that was made was appended, or nothing where none was
pub record TellsMade (old new : List ℕ) (result : Result Ending Stop) : Type 0 where
  pub done : IfOk result (λ ending. (ending ≡ Done) × (new ≡ old ++ codes "created\n"))
  pub unprinted : OnErr result (new ≡ old)
  pub status : IfErr result (λ stop. stop_status stop ≡ 5)

-- nothing was appended, and where no tables were made the status is 5
pub record TellsNothing {T : Type 0} (old new : List ℕ) (result : Result T Stop) : Type 0 where
  pub unprinted : new ≡ old
  pub status : IfErr result (λ stop. stop_status stop ≡ 5)
