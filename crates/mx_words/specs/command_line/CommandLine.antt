-- The words of the program, and the values that each takes.
use Rattle.std.specs.Prelude.{◌≡◌, ℕ, List, [], ◌∷◌, true, false, Some, map, find, option_map, unwrap_or, codes}
use Rattle.std.specs.Str.{bytes_eq}
use Rattle.clap.specs.Words.{App, Rule, new_app, new_rule, app_of}
use Rattle.clap.specs.Simple.{on_top}
use Rattle.clap.specs.declared.builder.command.Command.{Command}
use Rattle.clap.specs.declared.builder.command.Command.TheViews.{out-Command as fields_of}
use Rattle.clap.specs.declared.builder.action.ArgAction.TheVariants.{Set}

-- a value that has to be there, and is taken as it is written
abbrev pub value_rule : List ℕ → Rule
value_rule name = record (new_rule name) { action = Some Set; required = true; is_simple = false }

-- a word with the values that it takes, in their order
abbrev pub word : List ℕ → List (List ℕ) → App
word name values = on_top (λ s. record s { rules = map value_rule values }) (new_app name)

-- the words, and the names of the values of each
abbrev pub words : List (List ℕ × List (List ℕ))
words =
    (codes "try", codes "TAIL" ∷ codes "MINUTES" ∷ codes "CYCLES" ∷ codes "OFF" ∷ codes "ON" ∷ codes "SECTOR_CYCLES" ∷ [])
    ∷ (codes "init", codes "FILE" ∷ [])
    ∷ (codes "life", codes "FILE" ∷ codes "TAIL" ∷ [])
    ∷ (codes "due", codes "FILE" ∷ codes "TAIL" ∷ codes "DAY" ∷ [])
    ∷ (codes "forecast", codes "FILE" ∷ codes "TAIL" ∷ codes "DAY" ∷ codes "DAYS" ∷ codes "MINUTES" ∷ codes "CYCLES" ∷ [])
    ∷ (codes "limits", codes "FILE" ∷ codes "TAIL" ∷ codes "DAY" ∷ [])
    ∷ (codes "enter", codes "FILE" ∷ codes "ENTRIES" ∷ [])
    ∷ (codes "import", codes "FILE" ∷ codes "CSV" ∷ [])
    ∷ (codes "programme", codes "FILE" ∷ codes "DOC" ∷ codes "TOML" ∷ [])
    ∷ (codes "serve", codes "FILE" ∷ codes "PORT" ∷ codes "COUNT" ∷ [])
    ∷ (codes "verify", codes "FILE" ∷ [])
    ∷ (codes "migrate", codes "FILE" ∷ codes "STEPS" ∷ [])
    ∷ (codes "init-old", codes "FILE" ∷ codes "ENTRIES" ∷ [])
    ∷ (codes "explain", codes "WHAT" ∷ [])
    ∷ (codes "fleet", codes "FILE" ∷ codes "DAY" ∷ [])
    ∷ (codes "outlook", codes "FILE" ∷ codes "DAY" ∷ codes "DAYS" ∷ codes "MINUTES" ∷ codes "CYCLES" ∷ [])
    ∷ (codes "aircraft", codes "FILE" ∷ [])
    ∷ (codes "components", codes "FILE" ∷ [])
    ∷ (codes "deferred", codes "FILE" ∷ codes "DAY" ∷ [])
    ∷ []

-- the program without its words
abbrev pub office : App
office = on_top (λ s. record s { has_version = true; subcommand_required = true }) (new_app (codes "office"))

-- the program with its words
abbrev pub office_with_words : App
office_with_words = record { top = record office.top { is_leaf = false }; subs = map (λ w. (word w.0 w.1).top) words }

-- the command has this form, and none of its values is taken by other commands
abbrev pub IsApp : App → Command → Type 0
IsApp app command = (app_of command ≡ app) × ((fields_of command).has_globals ≡ false)

-- the command is a word of the program with its values
abbrev pub IsWord : List ℕ → Command → Type 0
IsWord name = IsApp (word name (unwrap_or (option_map (λ w. w.1) (find (λ w. bytes_eq w.0 name) words)) []))
