-- Lemmas on commands that a new book accepts one after the other.
use Rattle.std.proofs.Common.{◌≡◌, ◌∙◌, ap, sym, ℕ, ◌+◌, ◌<◌, List, [], ◌∷◌, ◌++◌, length, get_or, take}
use Rattle.std.proofs.lemmas.List.{take_more}
use Rattle.mx_book.specs.commands.Act.{Entry}
use Rattle.mx_book.specs.Book.{is_new}
use Rattle.mx_book.specs.Judge.{judge}
use Rattle.mx_book.specs.Run.{book_after, book_run, reply, replies}
use Rattle.mx_book.specs.declared.verdict.Verdict.{Verdict}
use Rattle.mx_book.proofs.GrowthLemmas.{book_run-append, replies-append}

module _ (commands : List Entry) (i : ℕ) (command : Entry) (low : i < length commands) (is : command ≡ get_or commands i command) where
  next_taken : take (i + 1) commands ≡ take i commands ++ command ∷ []
  next_taken = take_more commands i command low ∙ ap (λ c. take i commands ++ c ∷ []) (sym is)

  -- the book behind one command more
  pub next_book : book_run [] (take (i + 1) commands) ≡ book_after (book_run [] (take i commands)) command
  next_book = ap (book_run []) next_taken ∙ book_run-append [] (take i commands) (command ∷ [])

  -- the replies to one command more
  pub next_replies : replies [] (take (i + 1) commands) ≡ replies [] (take i commands) ++ reply (book_run [] (take i commands)) command ∷ []
  next_replies = ap (replies []) next_taken ∙ replies-append [] (take i commands) (command ∷ [])
