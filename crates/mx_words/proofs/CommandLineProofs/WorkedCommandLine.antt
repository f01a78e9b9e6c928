-- The command line, computed from the definitions.
use Rattle.std.proofs.Common.{refl, ◌≡◌, [], ◌∷◌, ◌++◌, true, map}
use Rattle.std.specs.Prelude.{codes, drop, length, take}
use Rattle.std.specs.List.{list_all}
use Rattle.mx_output.specs.explained.Form.{has_part}
use Rattle.mx_words.specs.command_line.CommandLine.{office, office_with_words, word, words}
use Rattle.mx_words.specs.declared.command_line.help.TheConstants.{OFFICE}

-- nineteen words
nineteen_words : map (λ sub. sub.name) office_with_words.subs
    ≡ codes "try" ∷ codes "init" ∷ codes "life" ∷ codes "due" ∷ codes "forecast" ∷ codes "limits" ∷ codes "enter" ∷ codes "import" ∷ codes "programme" ∷ codes "serve" ∷ codes "verify" ∷ codes "migrate" ∷ codes "init-old" ∷ codes "explain" ∷ codes "fleet" ∷ codes "outlook" ∷ codes "aircraft" ∷ codes "components" ∷ codes "deferred" ∷ []
nineteen_words = refl

-- how many values each takes
numbers_of_values : map (λ sub. length sub.rules) office_with_words.subs ≡ 6 ∷ 1 ∷ 2 ∷ 3 ∷ 6 ∷ 3 ∷ 2 ∷ 2 ∷ 3 ∷ 3 ∷ 1 ∷ 2 ∷ 2 ∷ 1 ∷ 2 ∷ 5 ∷ 1 ∷ 1 ∷ 2 ∷ []
numbers_of_values = refl

-- the values of import and of programme, in their order
values_in_order : map (λ sub. map (λ rule. rule.id) sub.rules) (drop 7 (take 9 office_with_words.subs)) ≡ (codes "FILE" ∷ codes "CSV" ∷ []) ∷ (codes "FILE" ∷ codes "DOC" ∷ codes "TOML" ∷ []) ∷ []
values_in_order = refl

-- the help of the program has a line for each word
words_in_the_help : list_all (λ w. has_part (codes "\n  " ++ (w.0 ++ codes "  ")) OFFICE.now) words ≡ true
words_in_the_help = refl

-- a value has to be there
values_have_to_be_there : map (λ rule. rule.required) (word (codes "import") (codes "FILE" ∷ codes "CSV" ∷ [])).top.rules ≡ true ∷ true ∷ []
values_have_to_be_there = refl

-- and so has a word
word_has_to_be_there : office.top.subcommand_required ≡ true
word_has_to_be_there = refl
