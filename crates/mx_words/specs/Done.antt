-- What is printed where all that the words ask for was done.
use Rattle.std.specs.Prelude.{◌≡◌, ◌⊎◌, ℕ, List, [], Option, Some, false, codes}
use Rattle.std.specs.Io.KnownBytes.{Appends}
use Rattle.clap.specs.declared.error.Error.{Error}
use Rattle.clap.specs.declared.parser.matches.ArgMatches.{ArgMatches}
use Rattle.mx_output.specs.printed.Entered.{AreFirstReplies, AreReplyLines, AreSomeReplyLines}
use Rattle.mx_output.specs.printed.Imported.{AreRowLines}
use Rattle.mx_output.specs.printed.Moved.{IsPointLine}
use Rattle.mx_output.specs.printed.Listed.{IsListAnswer}
use Rattle.mx_http.specs.responses.Serving.{served_line}
use Rattle.mx_words.specs.command_line.Trial.{is_trial_shaped, trial_commands}
use Rattle.mx_output.specs.printed.Tried.{TellsTrial}
use Rattle.mx_output.specs.printed.Verified.{IsVerifiedLine}
use Rattle.mx_words.specs.command_line.Usage.{IsRequest}
use Rattle.mx_words.specs.command_line.Job.{Job, said, tries, makes, explains, lists, enters, imports, installs, loads, moves, serves, verifies}
use Rattle.mx_output.specs.declared.endings.ending.Ending.{Ending}
use Rattle.mx_output.specs.declared.endings.ending.Ending.TheVariants.{Done}

-- the text and the ending are those of this job
abbrev pub IsDone : Job → List ℕ → Ending → Type 0
IsDone (tries trial) text ending = TellsTrial [] (trial_commands trial) trial.tail [] text ending
IsDone (makes file) text ending = (ending ≡ Done) × (text ≡ codes "created\n")
IsDone (lists file question) text ending = IsListAnswer question text ending
IsDone (enters file entries) text ending = AreSomeReplyLines text ending
IsDone (imports file csv) text ending = AreRowLines text ending
IsDone (loads file doc toml) text ending = AreReplyLines 1 text ending
IsDone (serves file port count) text ending = (text ≡ served_line count) × (ending ≡ Done)
IsDone (verifies file) text ending = IsVerifiedLine text ending
IsDone (moves file steps) text ending = IsPointLine text ending
IsDone (installs file entries) text ending = AreFirstReplies text ending
IsDone (explains explanation) text ending = (text ≡ explanation) × (ending ≡ Done)

-- the job is a trial that lacks its shape
abbrev pub LacksShape : Job → Type 0
LacksShape (tries trial) = is_trial_shaped trial ≡ false
LacksShape _ = ⊥

-- what is asked for was done, ending so, and its text printed
abbrev pub IsEnded : Option Job → Ending → Option (List ℕ) → Option (List ℕ) → Type 0
IsEnded asked ending old new = (job : Job) × (asked ≡ Some job) × (text : List ℕ) × IsDone job text ending × Appends old new text

-- the same for what was found for some words
abbrev pub IsEndedForSome : Ending → Option (List ℕ) → Option (List ℕ) → Type 0
IsEndedForSome ending old new = (matches : ArgMatches) × IsEnded (said matches) ending old new

-- some words asked for help, or all that some ask for was done and its text printed
abbrev pub IsAnswered : Option (List ℕ) → Option (List ℕ) → Type 0
IsAnswered old new = ((error : Error) × IsRequest error) ⊎ IsEndedForSome Done old new
