-- What a stop leaves of a run, as a book.
use Rattle.std.specs.Prelude.{◌≡◌, ◌≢◌, ◌⊎◌, ℕ, ◌+◌, List, ◌++◌, length, take, count_by, Some}
use Rattle.mx_book.specs.commands.Act.{Entry}
use Rattle.mx_book.specs.Accepted.{accepted, is_accepted, HasAcknowledged}
use Rattle.mx_book.specs.Run.{book_run, replies}
use Rattle.mx_layout.specs.declared.fault.Table.{Table}
use Rattle.mx_faults.specs.declared.fault.Fault.TheVariants.{Store, Damaged}
use Rattle.mx_office.specs.declared.fault.Outcomes.{Outcomes}

-- how many of a run's replies say that a command was accepted
abbrev pub count_accepted : Outcomes → ℕ
count_accepted outcomes = count_by is_accepted outcomes.replies.items

-- as many commands as the replies say were accepted; or one more, where the store stopped the run
abbrev pub IsKept : ℕ → Outcomes → Type 0
IsKept kept outcomes = (kept ≡ count_accepted outcomes) ⊎ ((outcomes.stopped ≡ Some Store) × (kept ≡ count_accepted outcomes + 1))

-- so many commands reached the file: as many as were answered, or one more where the store stopped the run
abbrev pub HasReached : Outcomes → ℕ → Type 0
HasReached outcomes reached = (reached ≡ length outcomes.replies.items) ⊎ ((outcomes.stopped ≡ Some Store) × (reached ≡ length outcomes.replies.items + 1))

-- The book from before, followed by a prefix of the commands accepted since, with every acknowledged command in it. It is that of the commands which the run reached, so of none behind the one at which it stopped; each answer is the definition's, and no table was answered damaged.
pub record IsBookKept (before commands : List Entry) (outcomes : Outcomes) (book : List Entry) : Type 0 where
  pub answered : outcomes.replies.items ≡ replies before (take (length outcomes.replies.items) commands)
  pub reached : ℕ
  pub reaches : HasReached outcomes reached
  pub is : book ≡ book_run before (take reached commands)
  pub kept : ℕ
  pub prefix : book ≡ before ++ take kept (accepted before commands)
  pub acknowledged : HasAcknowledged book outcomes.replies.items commands
  pub at_most_one_more : IsKept kept outcomes
  pub undamaged : (table : Table) → outcomes.stopped ≢ Some (Damaged table)
