-- What a trial prints: the replies to its commands, and the life of its aircraft.
use Rattle.std.specs.Prelude.{◌≡◌, ℕ, List, ◌++◌}
use Rattle.mx_book.specs.commands.Act.{Entry}
use Rattle.mx_book.specs.Run.{book_run, replies}
use Rattle.mx_lists.specs.Report.{report_of}
use Rattle.mx_lists.specs.declared.question.Question.TheVariants.{Life}
use Rattle.mx_output.specs.printed.Entered.{reply_lines}
use Rattle.mx_output.specs.printed.Listed.{list_answer, list_ending}
use Rattle.mx_output.specs.endings.Status.{graver, run_ending}
use Rattle.mx_output.specs.declared.endings.ending.Ending.{Ending}

-- the replies to the commands behind a book, and the life of the aircraft after them
abbrev pub run_text : List Entry → List Entry → List ℕ → List ℕ
run_text book commands tail = reply_lines book commands ++ list_answer (report_of (book_run book commands) (Life tail))

-- how that ends: refused where a command or the question is
abbrev pub run_answer : List Entry → List Entry → List ℕ → Ending
run_answer book commands tail = graver (run_ending (replies book commands)) (list_ending (report_of (book_run book commands) (Life tail)))

-- the replies and the life were appended, and the ending is theirs
pub record TellsTrial (book commands : List Entry) (tail old new : List ℕ) (ending : Ending) : Type 0 where
  pub text : new ≡ old ++ run_text book commands tail
  pub ending_is : ending ≡ run_answer book commands tail
