-- What the words of a command line ask for, by the values that were found for each of their names.
use Rattle.std.specs.Prelude.{ℕ, List, ◌&&◌, nat_le, Option, Some, None, if◌then◌else◌, codes}
use Rattle.std.specs.Str.{bytes_eq}
use Rattle.clap.specs.Words.{Row, first_of, found_of, rows_of, subcommand_rows_of}
use Rattle.clap.specs.declared.parser.matches.ArgMatches.{ArgMatches}
use Rattle.mx_intake.specs.Form.{if_read}
use Rattle.mx_intake.specs.Vocabulary.{moment_of_text}
use Rattle.mx_output.specs.explained.Explained.{explanation_of}
use Rattle.mx_output.specs.questions.Asking.{deferred_question, doc_of, due_question, fleet_question, forecast_question, life_question, limits_question, outlook_question, tail_of}
use Rattle.mx_lists.specs.declared.question.Question.{Question}
use Rattle.mx_lists.specs.declared.question.Question.TheVariants as question
use Rattle.mx_words.specs.command_line.Number.{number_in}
use Rattle.mx_words.specs.declared.command_line.trial.Trial.{Trial}
use Rattle.mx_words.specs.declared.command_line.words.TheConstants.{MOST_CONNECTIONS, MOST_PORT, MOST_STEPS}
use Rattle.mx_words.specs.declared.command_line.words.Words.{Words}
use Rattle.mx_words.specs.declared.command_line.words.Words.TheVariants as words

-- an aircraft and a sector are tried; an empty book is made in a file; a list is asked of one; the commands of a file, the sectors of a log, or a programme by a document are entered into one; so many connections are served at a port with one; it is told whether the tables of one are those of a book; one is moved to the newest layout by at most so many commits; a book of the commands of a file is made in another, in the oldest layout; a text explains a refusal or a fault
pub data Job : Type 0 where
  tries : Trial → Job
  makes : List ℕ → Job
  lists : List ℕ → Question → Job
  enters : List ℕ → List ℕ → Job
  imports : List ℕ → List ℕ → Job
  loads : List ℕ → List ℕ → List ℕ → Job
  serves : List ℕ → ℕ → ℕ → Job
  verifies : List ℕ → Job
  moves : List ℕ → ℕ → Job
  installs : List ℕ → List ℕ → Job
  explains : List ℕ → Job

-- the job of words that were read
abbrev pub job_of : Words → Job
job_of (words.Try trial) = tries trial
job_of (words.Init file) = makes file.now
job_of (words.List file question) = lists file.now question
job_of (words.Enter file entries) = enters file.now entries.now
job_of (words.Import file csv) = imports file.now csv.now
job_of (words.Programme file doc toml) = loads file.now doc toml.now
job_of (words.Serve file port count) = serves file.now port count
job_of (words.Verify file) = verifies file.now
job_of (words.Migrate file steps) = moves file.now steps
job_of (words.InitOld file entries) = installs file.now entries.now
job_of (words.Explain text) = explains text.now

-- ── the values of a word, by their names ──

-- what was found for each name
abbrev pub values_of : ArgMatches → List Row
values_of matches = rows_of (found_of matches)

-- the number of a name
abbrev pub number_at : List ℕ → List Row → Option ℕ
number_at name values = if_read (first_of name values) number_in

-- the number of a name, where it is from the least to the greatest
abbrev pub number_within : ℕ → ℕ → List ℕ → List Row → Option ℕ
number_within least most name values =
    if_read (number_at name values) (λ n. if nat_le least n && nat_le n most then Some n else None)

-- the registration, the document, and the moment of a name
abbrev pub tail_at : List Row → Option (List ℕ)
tail_at values = if_read (first_of (codes "TAIL") values) tail_of

abbrev pub doc_at : List Row → Option (List ℕ)
doc_at values = if_read (first_of (codes "DOC") values) doc_of

abbrev pub moment_at : List ℕ → List Row → Option ℕ
moment_at name values = if_read (first_of name values) moment_of_text

-- ── what each word asks for ──

-- what is tried
abbrev pub trying : List Row → Option Trial
trying values =
    if_read (tail_at values) (λ t.
    if_read (number_at (codes "MINUTES") values) (λ m.
    if_read (number_at (codes "CYCLES") values) (λ c.
    if_read (moment_at (codes "OFF") values) (λ o.
    if_read (moment_at (codes "ON") values) (λ l.
    if_read (number_at (codes "SECTOR_CYCLES") values) (λ s.
    Some (record { tail = t; minutes = m; cycles = c; off = o; on = l; sector_cycles = s })))))))

-- the question for a forecast
abbrev pub asking_forecast : List ℕ → List ℕ → List Row → Option Question
asking_forecast tail day values =
    if_read (number_at (codes "DAYS") values) (λ days.
    if_read (number_at (codes "MINUTES") values) (λ minutes.
    if_read (number_at (codes "CYCLES") values) (λ cycles. forecast_question tail day days minutes cycles)))

-- the question of a word for a list on a day
abbrev pub asking_on_a_day : List ℕ → List ℕ → List ℕ → List Row → Option Question
asking_on_a_day word tail day values =
    if bytes_eq word (codes "due") then due_question tail day
    else if bytes_eq word (codes "limits") then limits_question tail day
    else if bytes_eq word (codes "forecast") then asking_forecast tail day values
    else None

-- the question of a word for a list of an aircraft
abbrev pub asking_of_one : List ℕ → List Row → Option Question
asking_of_one word values =
    if_read (first_of (codes "TAIL") values) (λ tail.
    if bytes_eq word (codes "life") then life_question tail
    else if_read (first_of (codes "DAY") values) (λ day. asking_on_a_day word tail day values))

-- the question for what will be due on all aircraft
abbrev pub asking_outlook : List ℕ → List Row → Option Question
asking_outlook day values =
    if_read (number_at (codes "DAYS") values) (λ days.
    if_read (number_at (codes "MINUTES") values) (λ minutes.
    if_read (number_at (codes "CYCLES") values) (λ cycles. outlook_question day days minutes cycles)))

-- the question of a word for a list, of all aircraft or of one
abbrev pub asking : List ℕ → List Row → Option Question
asking word values =
    if bytes_eq word (codes "aircraft") then Some question.Aircraft
    else if bytes_eq word (codes "components") then Some question.Components
    else if bytes_eq word (codes "fleet") then if_read (first_of (codes "DAY") values) fleet_question
    else if bytes_eq word (codes "deferred") then if_read (first_of (codes "DAY") values) deferred_question
    else if bytes_eq word (codes "outlook") then if_read (first_of (codes "DAY") values) (λ day. asking_outlook day values)
    else asking_of_one word values

-- a programme is entered into a file
abbrev pub loading : List ℕ → List Row → Option Job
loading file values =
    if_read (doc_at values) (λ doc.
    if_read (first_of (codes "TOML") values) (λ toml. Some (loads file doc toml)))

-- connections are served with a file
abbrev pub serving : List ℕ → List Row → Option Job
serving file values =
    if_read (number_within 1 MOST_PORT (codes "PORT") values) (λ port.
    if_read (number_within 1 MOST_CONNECTIONS (codes "COUNT") values) (λ count. Some (serves file port count)))

-- a file is moved to the newest layout
abbrev pub moving : List ℕ → List Row → Option Job
moving file values = if_read (number_within 0 MOST_STEPS (codes "STEPS") values) (λ steps. Some (moves file steps))

-- a refusal or a fault is explained
abbrev pub explaining : List Row → Option Job
explaining values =
    if_read (first_of (codes "WHAT") values) (λ what.
    if_read (explanation_of what) (λ text. Some (explains text)))

-- what a word asks for that looks after a file itself, or for a list
abbrev pub job_beside : List ℕ → List ℕ → List Row → Option Job
job_beside word file values =
    if bytes_eq word (codes "verify") then Some (verifies file)
    else if bytes_eq word (codes "migrate") then moving file values
    else if bytes_eq word (codes "init-old") then if_read (first_of (codes "ENTRIES") values) (λ entries. Some (installs file entries))
    else if_read (asking word values) (λ question. Some (lists file question))

-- what a word over a file asks for
abbrev pub job_over : List ℕ → List ℕ → List Row → Option Job
job_over word file values =
    if bytes_eq word (codes "init") then Some (makes file)
    else if bytes_eq word (codes "enter") then if_read (first_of (codes "ENTRIES") values) (λ entries. Some (enters file entries))
    else if bytes_eq word (codes "import") then if_read (first_of (codes "CSV") values) (λ csv. Some (imports file csv))
    else if bytes_eq word (codes "programme") then loading file values
    else if bytes_eq word (codes "serve") then serving file values
    else job_beside word file values

-- what a word with its values asks for, if they can be read
abbrev pub job_said : List ℕ × List Row → Option Job
job_said (word, values) =
    if bytes_eq word (codes "try") then if_read (trying values) (λ trial. Some (tries trial))
    else if bytes_eq word (codes "explain") then explaining values
    else if_read (first_of (codes "FILE") values) (λ file. job_over word file values)

-- what is asked for by what was found
abbrev pub said : ArgMatches → Option Job
said matches = if_read (subcommand_rows_of matches) job_said
