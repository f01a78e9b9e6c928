-- Lemmas on the words of the program.
use Rattle.std.proofs.Common.{◌≡◌, ◌∙◌, ℕ, Bool, ◌||◌, List, [], ◌∷◌, ◌++◌, ap, ap₂, sym}
use Rattle.std.proofs.lemmas.List.{map-append}
use Rattle.clap.specs.Words.{AddsSubcommand, App, Rule, new_app, with_rule, with_subcommand}
use Rattle.clap.specs.Simple.{on_top}
use Rattle.clap.specs.declared.builder.command.Command.{Command}
use Rattle.mx_words.specs.command_line.CommandLine.{IsApp, value_rule, word}

-- a word that takes one value more
pub word_more : (name : List ℕ) (values : List (List ℕ)) (value : List ℕ) → with_rule (word name values) (value_rule value) ≡ word name (values ++ value ∷ [])
word_more name values value = ap (λ (rules : List Rule). on_top (λ s. record s { rules = rules }) (new_app name)) (sym (map-append value_rule values (value ∷ [])))

-- a program with one word more
pub one_word_more : (app word : App) (old sub new : Command) → IsApp app old → IsApp word sub → AddsSubcommand old sub new → IsApp (with_subcommand app word.top) new
one_word_more app word old sub new above below added = (
  added.shape below.1 ∙ ap₂ with_subcommand above.0 (ap (λ (a : App). a.top) below.0),
  added.globals ∙ ap₂ (λ (a b : Bool). a || b) above.1 below.1,
)
