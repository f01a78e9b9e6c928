-- What a new book makes of the commands that a file is made with.
use Rattle.std.specs.Prelude.{◌≡◌, ℕ, List, ◌++◌, []}
use Rattle.mx_book.specs.commands.Act.{Entry}
use Rattle.mx_book.specs.Run.{book_run, replies}
use Rattle.mx_reports.specs.Replies.{lines_of}
use Rattle.mx_jobs.specs.declared.upkeep.installing.Accepted.{Accepted}

-- the book of those of some commands that are accepted one after the other, and a reply to each command
pub record AreAccepted (commands : List Entry) (found : Accepted) : Type 0 where
  pub book : found.book ≡ book_run [] commands
  pub replies : found.replies.items ≡ replies [] commands

-- the text ends with the lines of the replies to the commands
abbrev pub HasAppended : Accepted → List ℕ → Type 0
HasAppended accepted text = (before : List ℕ) × (text ≡ before ++ lines_of accepted.replies.items)
