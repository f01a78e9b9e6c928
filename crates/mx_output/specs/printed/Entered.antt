-- What is printed of commands that are entered.
use Rattle.std.specs.Prelude.{◌≡◌, ℕ, List, [], ◌++◌, length, Option, Some, None, Result, Ok, Err}
use Rattle.mx_book.specs.commands.Act.{Entry}
use Rattle.mx_book.specs.Run.{replies}
use Rattle.mx_book.specs.declared.verdict.Reply.{Reply}
use Rattle.mx_faults.specs.declared.fault.Fault.{Fault}
use Rattle.mx_reports.specs.Replies.{lines_of}
use Rattle.mx_output.specs.declared.endings.ending.Ending.{Ending}
use Rattle.mx_output.specs.declared.endings.ending.Stop.{Stop}
use Rattle.mx_output.specs.declared.endings.ending.Stop.TheVariants.{Office, Print}
use Rattle.mx_output.specs.endings.Status.{run_ending}

-- the lines of the replies to commands over a book
abbrev pub reply_lines : List Entry → List Entry → List ℕ
reply_lines book commands = lines_of (replies book commands)

-- the text is a line for each of so many replies, and the ending is theirs
abbrev pub AreReplyLines : ℕ → List ℕ → Ending → Type 0
AreReplyLines count text ending =
    (replies : List Reply) × (length replies ≡ count) × (text ≡ lines_of replies) × (ending ≡ run_ending replies)

-- the same for some number of replies
abbrev pub AreSomeReplyLines : List ℕ → Ending → Type 0
AreSomeReplyLines text ending = (count : ℕ) × AreReplyLines count text ending

-- the lines of all replies were appended, and the ending is theirs
pub record TellsReplies (book commands : List Entry) (old new : List ℕ) (ending : Ending) : Type 0 where
  pub text : new ≡ old ++ reply_lines book commands
  pub ending_is : ending ≡ run_ending (replies book commands)

-- the text is the replies of a new book to some commands, and the ending is theirs
abbrev pub AreFirstReplies : List ℕ → Ending → Type 0
AreFirstReplies text ending = (commands : List Entry) × TellsReplies [] commands [] text ending

-- What was appended of a run with these replies that this stopped, if anything did: a line for each reply, and the ending is theirs or tells what stopped it; nothing was appended where memory ran out for the lines.
abbrev pub PrintsRun : List ℕ → List ℕ → Result Ending Stop → List Reply → Option Fault → Type 0
PrintsRun old new (Ok ending) said stop = (stop ≡ None) × (new ≡ old ++ lines_of said) × (ending ≡ run_ending said)
PrintsRun old new (Err (Office fault)) said stop = (stop ≡ Some fault) × (new ≡ old ++ lines_of said)
PrintsRun old new (Err Print) said stop = new ≡ old
PrintsRun old new (Err _) said stop = ⊥
