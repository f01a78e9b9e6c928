-- What is printed of a run that nothing stopped.
use Rattle.std.proofs.Common.{◌≡◌, refl, ap, subst, ◌∙◌, ℕ, List, ◌++◌, length, take, None, arith}
use Rattle.std.proofs.lemmas.List.{take_all}
use Rattle.sqlite.specs.Store.{Ghosts}
use Rattle.sqlite.specs.State.{HasCleanDisk}
use Rattle.mx_book.specs.commands.Act.{Entry}
use Rattle.mx_book.specs.Run.{book_run, replies}
use Rattle.mx_book.specs.declared.verdict.Reply.{Reply}
use Rattle.mx_office.specs.Calls.{IsRun}
use Rattle.mx_office.specs.Layout.{office_schema}
use Rattle.mx_office.specs.Office.{office_state, StandsFor}
use Rattle.mx_office.proofs.StandsLemmas.{own_settled}
use Rattle.mx_office.specs.declared.office.Office.{Office}
use Rattle.mx_reports.specs.Replies.{lines_of}
use Rattle.mx_output.specs.printed.Entered.{TellsReplies}
use Rattle.mx_output.specs.endings.Status.{run_ending}
use Rattle.mx_output.specs.declared.endings.ending.Ending.{Ending}

module _ {S : Type 0} {g : Ghosts S} (book commands : List Entry) (said : List Reply) (old new : Office S g) (run : IsRun commands said None old new) (stands : StandsFor old book) where
  whole : take (length said) commands ≡ commands
  whole = let all : length said ≡ length commands = run.done refl in take_all (length said) commands (omega (arith, all))

  -- the tables stand for the book behind all of the commands
  pub stands_behind : StandsFor new (book_run book commands)
  stands_behind = subst (λ (cs : List Entry). StandsFor new (book_run book cs)) whole ((run.over_book office_schema own_settled book stands).kept (λ same. cc))

  -- the lines are those of the book
  pub told_by_book : HasCleanDisk (office_state new) → (before after : List ℕ) (ending : Ending) → after ≡ before ++ lines_of said → ending ≡ run_ending said → TellsReplies book commands before after ending
  told_by_book clean before after ending printed ended =
      let all : said ≡ replies book commands = (run.over_book office_schema own_settled book stands).answered clean ∙ ap (replies book) whole in
      record { text = printed ∙ ap (λ given. before ++ lines_of given) all; ending_is = ended ∙ ap run_ending all }
