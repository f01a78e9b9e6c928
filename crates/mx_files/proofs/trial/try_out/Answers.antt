use Rattle.std.proofs.Common.{◌≡◌, List, [], ◌∙◌, IfOk, subst}
use Rattle.mx_book.specs.commands.Act.{Entry}
use Rattle.mx_words.specs.command_line.Trial.{trial_commands}
use Rattle.mx_output.specs.printed.Tried.{TellsTrial}
use Rattle.mx_files.proofs.trial.try_out.Goals as goal

pub returns-in-Ok-clause-exact : goal.returns-in-Ok-clause-exact
returns-in-Ok-clause-exact c =
    let trial = c.args.trial.now in
    let tried = c.try_in_memory in
    let commands : c.as_slice.result.now ≡ trial_commands trial = c.as_slice.ensures.value ∙ c.in-Ok.ensures.made in
    subst (λ (given : List Entry). IfOk tried.result (TellsTrial [] given trial.tail c.args.out.now.items tried.new.out.items)) commands tried.ensures.exact
