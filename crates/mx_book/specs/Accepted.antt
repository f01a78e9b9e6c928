-- What a run accepts, and what it acknowledges.
-- These are functions of lists of entries, so they stand beside the runs with their law, and the headline cites them.
use Rattle.std.specs.Prelude.{◌≡◌, ◌⊎◌, ℕ, List, [], ◌∷◌, ◌++◌, slice_get, Bool, true, false, Option, Some, IsSomeAnd, if◌then◌else◌}
use Rattle.mx_book.specs.commands.Act.{Entry}
use Rattle.mx_book.specs.declared.verdict.Reply.{Reply}
use Rattle.mx_book.specs.declared.verdict.Reply.TheVariants.{Accepted, Already}
use Rattle.mx_book.specs.Judge.{judge}
use Rattle.mx_book.specs.Book.{is_new, entry_at}

-- the commands that are accepted when these are handed in after a book, in their order
abbrev pub accepted : List Entry → List Entry → List Entry
accepted before [] = []
accepted before (command ∷ commands) = if is_new (judge before command) then command ∷ accepted (before ++ command ∷ []) commands else accepted before commands

-- the reply says that the command was accepted
abbrev pub is_accepted : Reply → Bool
is_accepted (Accepted number) = true
is_accepted _ = false

-- the reply, where there is one, acknowledges a command as the entry with a number
abbrev pub Acknowledges : Option Reply → ℕ → Type 0
Acknowledges reply number = (reply ≡ Some (Accepted number)) ⊎ (reply ≡ Some (Already number))

-- each reply that acknowledges a command has that command's place, and the command is the book's entry with the number that the reply gives
abbrev pub HasAcknowledged : List Entry → List Reply → List Entry → Type 0
HasAcknowledged book replies commands =
    (at number : ℕ) → Acknowledges (slice_get replies at) number → IsSomeAnd (slice_get commands at) (λ command. entry_at book number ≡ Some command)
