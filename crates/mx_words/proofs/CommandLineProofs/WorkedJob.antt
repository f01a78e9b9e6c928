-- What words ask for, computed from the definitions.
use Rattle.std.proofs.Common.{refl, ◌≡◌, ℕ, List, [], ◌∷◌, Option, Some, None, map, true}
use Rattle.std.specs.Prelude.{codes}
use Rattle.std.specs.Option.{is_some, option_map}
use Rattle.clap.specs.Words.{Row}
use Rattle.clap.specs.declared.builder.value_parser.Reading.TheVariants.{AsWritten}
use Rattle.mx_intake.proofs.Worked.{intake_on_literals}
use Rattle.mx_lists.specs.declared.question.Question.TheVariants.{Life, Due, Forecast, Limits, Fleet, Outlook, Aircraft, Components, Deferred}
use Rattle.mx_output.specs.explained.Explained.{explanation_of, explanations}
use Rattle.mx_words.specs.command_line.Job.{Job, tries, makes, explains, lists, enters, imports, installs, loads, moves, serves, verifies, job_said, number_within}
use Rattle.mx_words.specs.declared.command_line.words.TheConstants.{MOST_CONNECTIONS, MOST_PORT, MOST_STEPS}

-- what is found for a name with one value
abbrev row : List ℕ × List ℕ → Row
row (name, value) = record { id = name; values = value ∷ []; count = None; source = None; reading = AsWritten }

abbrev asked : List ℕ → List (List ℕ × List ℕ) → Option Job
asked word values = job_said (word, map row values)

-- a book in the file records, and D-ABCD on 2024-03-10, which is day 19,792
abbrev on_a_day : List (List ℕ × List ℕ)
on_a_day = (codes "FILE", codes "records") ∷ (codes "TAIL", codes "D-ABCD") ∷ (codes "DAY", codes "2024-03-10") ∷ []

abbrev looking_ahead : List ℕ → List ℕ → List ℕ → List (List ℕ × List ℕ)
looking_ahead days minutes cycles =
    (codes "CYCLES", cycles) ∷ (codes "MINUTES", minutes) ∷ (codes "DAYS", days) ∷ on_a_day

made : asked (codes "init") ((codes "FILE", codes "records") ∷ []) ≡ Some (makes (codes "records"))
made = refl

life_asked : asked (codes "life") on_a_day ≡ Some (lists (codes "records") (Life (codes "D-ABCD")))
life_asked = refl

due_asked : asked (codes "due") on_a_day ≡ Some (lists (codes "records") (Due (codes "D-ABCD") 19792))
unfolding intake_on_literals
due_asked = refl

limits_asked : asked (codes "limits") on_a_day ≡ Some (lists (codes "records") (Limits (codes "D-ABCD") 19792))
unfolding intake_on_literals
limits_asked = refl

-- zeros may stand in front of a number, and as many as there are
forecast_asked : asked (codes "forecast") (looking_ahead (codes "0000030") (codes "120") (codes "4")) ≡ Some (lists (codes "records") (Forecast (codes "D-ABCD") 19792 30 120 4))
unfolding intake_on_literals
forecast_asked = refl

forecast_too_far : asked (codes "forecast") (looking_ahead (codes "3651") (codes "120") (codes "4")) ≡ None
unfolding intake_on_literals
forecast_too_far = refl

forecast_of_no_number : asked (codes "forecast") (looking_ahead (codes "30") (codes "-1") (codes "4")) ≡ None
unfolding intake_on_literals
forecast_of_no_number = refl

fleet_asked : asked (codes "fleet") on_a_day ≡ Some (lists (codes "records") (Fleet 19792))
unfolding intake_on_literals
fleet_asked = refl

deferred_asked : asked (codes "deferred") on_a_day ≡ Some (lists (codes "records") (Deferred 19792))
unfolding intake_on_literals
deferred_asked = refl

outlook_asked : asked (codes "outlook") (looking_ahead (codes "30") (codes "120") (codes "4")) ≡ Some (lists (codes "records") (Outlook 19792 30 120 4))
unfolding intake_on_literals
outlook_asked = refl

outlook_at_too_much : asked (codes "outlook") (looking_ahead (codes "30") (codes "120") (codes "51")) ≡ None
unfolding intake_on_literals
outlook_at_too_much = refl

what_there_is : map (λ word. asked word on_a_day) (codes "aircraft" ∷ codes "components" ∷ []) ≡ Some (lists (codes "records") Aircraft) ∷ Some (lists (codes "records") Components) ∷ []
what_there_is = refl

entered : asked (codes "enter") ((codes "FILE", codes "records") ∷ (codes "ENTRIES", codes "day.json") ∷ []) ≡ Some (enters (codes "records") (codes "day.json"))
entered = refl

imported : asked (codes "import") ((codes "FILE", codes "records") ∷ (codes "CSV", codes "log.csv") ∷ []) ≡ Some (imports (codes "records") (codes "log.csv"))
imported = refl

loaded : asked (codes "programme") ((codes "FILE", codes "records") ∷ (codes "DOC", codes "MP1") ∷ (codes "TOML", codes "c172.toml") ∷ []) ≡ Some (loads (codes "records") (codes "MP1") (codes "c172.toml"))
loaded = refl

-- a document has no blank
loaded_by_no_document : asked (codes "programme") ((codes "FILE", codes "records") ∷ (codes "DOC", codes "MP 1") ∷ (codes "TOML", codes "c172.toml") ∷ []) ≡ None
loaded_by_no_document = refl

served : asked (codes "serve") ((codes "FILE", codes "records") ∷ (codes "PORT", codes "8080") ∷ (codes "COUNT", codes "3") ∷ []) ≡ Some (serves (codes "records") 8080 3)
served = refl

-- the greatest port, the most connections, and the most commits of a move
most : MOST_PORT ∷ MOST_CONNECTIONS ∷ MOST_STEPS ∷ [] ≡ 65535 ∷ 1000000 ∷ 2000000 ∷ []
most = refl

-- a port is from 1 to 65,535
ports : map (λ port. number_within 1 65535 (codes "PORT") (row (codes "PORT", port) ∷ [])) (codes "0" ∷ codes "1" ∷ codes "65535" ∷ codes "65536" ∷ codes "x" ∷ []) ≡ None ∷ Some 1 ∷ Some 65535 ∷ None ∷ None ∷ []
ports = refl

served_past_the_ports : asked (codes "serve") ((codes "FILE", codes "records") ∷ (codes "PORT", codes "65536") ∷ (codes "COUNT", codes "3") ∷ []) ≡ None
served_past_the_ports = refl

verified : asked (codes "verify") ((codes "FILE", codes "records") ∷ []) ≡ Some (verifies (codes "records"))
verified = refl

-- a file is moved by up to 2,000,000 commits, and by none
abbrev moved : List ℕ → Option Job
moved steps = asked (codes "migrate") ((codes "FILE", codes "records") ∷ (codes "STEPS", steps) ∷ [])

moved_by : map moved (codes "0" ∷ codes "2000" ∷ codes "2000000" ∷ []) ≡ Some (moves (codes "records") 0) ∷ Some (moves (codes "records") 2000) ∷ Some (moves (codes "records") 2000000) ∷ []
moved_by = refl

moved_by_no_number : map moved (codes "2000001" ∷ codes "-1" ∷ codes "all" ∷ []) ≡ None ∷ None ∷ None ∷ []
moved_by_no_number = refl

installed : asked (codes "init-old") ((codes "FILE", codes "records") ∷ (codes "ENTRIES", codes "day.json") ∷ []) ≡ Some (installs (codes "records") (codes "day.json"))
installed = refl

-- the moments of 2024-03-01, 08:00 and 09:30, are 28,488,000 and 28,488,090
tried : asked (codes "try") ((codes "TAIL", codes "D-ABCD") ∷ (codes "MINUTES", codes "60000") ∷ (codes "CYCLES", codes "800") ∷ (codes "OFF", codes "2024-03-01T08:00") ∷ (codes "ON", codes "2024-03-01T09:30") ∷ (codes "SECTOR_CYCLES", codes "1") ∷ [])
    ≡ Some (tries (record { tail = codes "D-ABCD"; minutes = 60000; cycles = 800; off = 28488000; on = 28488090; sector_cycles = 1 }))
unfolding intake_on_literals
tried = refl

-- a refusal and a fault are explained by their texts
abbrev explained : List ℕ → Option Job
explained what = asked (codes "explain") ((codes "WHAT", what) ∷ [])

explained_by : map explained (codes "41" ∷ codes "63" ∷ codes "store" ∷ []) ≡ map (λ what. option_map explains (explanation_of what)) (codes "41" ∷ codes "63" ∷ codes "store" ∷ [])
unfolding explanations
explained_by = refl

some_explained : map (λ what. is_some (explained what)) (codes "41" ∷ codes "63" ∷ codes "store" ∷ []) ≡ true ∷ true ∷ true ∷ []
unfolding explanations
some_explained = refl

-- numbers and words that are none
not_explained : map explained (codes "32" ∷ codes "041" ∷ codes "entry" ∷ []) ≡ None ∷ None ∷ None ∷ []
unfolding explanations
not_explained = refl

-- a word that there is not, and a value that is not there
no_word : asked (codes "lives") on_a_day ≡ None
no_word = refl

no_value : asked (codes "due") ((codes "FILE", codes "records") ∷ (codes "TAIL", codes "D-ABCD") ∷ []) ≡ None
no_value = refl
