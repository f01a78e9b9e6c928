-- Runs: commands handed in one after the other, the replies and the book after them.
use Rattle.std.specs.Prelude.{ℕ, ◌+◌, length, List, [], ◌∷◌, ◌++◌, if◌then◌else◌}
use Rattle.mx_book.specs.commands.Act.{Entry}
use Rattle.mx_book.specs.declared.verdict.Verdict.{Verdict}
use Rattle.mx_book.specs.declared.verdict.Verdict.TheVariants.{New, Already, Refused}
use Rattle.mx_book.specs.declared.verdict.Reply.{Reply}
use Rattle.mx_book.specs.declared.verdict.Reply.TheVariants as answers
use Rattle.mx_book.specs.Judge.{judge}
use Rattle.mx_book.specs.Book.{is_new}

-- the book after a command: a new one is appended
abbrev pub book_after : List Entry → Entry → List Entry
book_after book command = if is_new (judge book command) then book ++ command ∷ [] else book

-- the reply that a verdict makes, where the next entry has this number
abbrev pub reply_to : ℕ → Verdict → Reply
reply_to next New = answers.Accepted next
reply_to next (Already seq) = answers.Already seq
reply_to next (Refused refusal) = answers.Refused refusal

-- the reply to a command
abbrev pub reply : List Entry → Entry → Reply
reply book command = reply_to (length book + 1) (judge book command)

-- the book after a run
abbrev pub book_run : List Entry → List Entry → List Entry
book_run book [] = book
book_run book (command ∷ commands) = book_run (book_after book command) commands

-- the replies of a run
abbrev pub replies : List Entry → List Entry → List Reply
replies book [] = []
replies book (command ∷ commands) = reply book command ∷ replies (book_after book command) commands
