-- What is explained: each number of a refusal, each number of a fault of an input file, and each word behind `fault`; and which text of the table explains it.
use Rattle.std.specs.Prelude.{ℕ, List, [], ◌∷◌, ◌++◌, ◌==◌, Bool, Option, find, map}
use Rattle.std.specs.List.{before_first, list_any}
use Rattle.std.specs.Str.{bytes_eq}
use Rattle.std.specs.Fmt.{decimal}
use Rattle.mx_book.specs.Judge.{refusal_number}
use Rattle.mx_book.specs.declared.verdict.Refusal.{Refusal}
use Rattle.mx_book.specs.declared.verdict.Refusal.TheVariants.{Conflict, Full, UnknownAircraft, UnknownComponent, UnknownPosition, UnknownProgramme, UnknownTask, UnknownDefect, AircraftExists, ComponentExists, PositionTaken, AlreadyFitted, NotFitted, WrongPart, ItemElsewhere, TaskClosed, LifeLimit, DefectClosed, OutOfOrder, NotExtendable, AlreadyExtended, ExtensionTooLong, IntervalEnded, WrongRevision, OtherAircraft, OpeningTooLate, OpeningTooLarge, RepeatedLine}
use Rattle.mx_intake.specs.declared.fault.TheConstants.{MEMORY, NOT_TEXT, MISSING, BAD_VALUE, UNKNOWN_KEY, BAD_SHAPE, BAD_HEADER, TOO_LONG, BAD_ROW, READ_FAILED}
use Rattle.mx_layout.specs.declared.fault.Table.TheVariants as name
use Rattle.mx_layout.specs.declared.fault.TableFault.TheVariants as table
use Rattle.mx_faults.specs.declared.fault.Fault.TheVariants as office
use Rattle.mx_faults.specs.declared.fault.OpenFault.TheVariants as opening
use Rattle.mx_output.specs.declared.endings.ending.Stop.{Stop}
use Rattle.mx_output.specs.declared.endings.ending.Stop.TheVariants.{Words, Shape, MakeMemory, Create, Open, Net, Office}
use Rattle.mx_output.specs.declared.explained.table.TheConstants.{EXPLANATIONS}
use Rattle.mx_output.specs.endings.FaultLine.{stop_words}

-- the first word of a text
abbrev pub first_word : List ℕ → List ℕ
first_word text = before_first (λ byte. byte == 32) text

-- ── what is explained ──

-- a refusal of each kind
abbrev pub each_refusal : List Refusal
each_refusal =
    Conflict 1 ∷ Full ∷ UnknownAircraft ∷ UnknownComponent ∷ UnknownPosition ∷ UnknownProgramme ∷ UnknownTask ∷ UnknownDefect ∷ AircraftExists ∷ ComponentExists
    ∷ PositionTaken ∷ AlreadyFitted ∷ NotFitted ∷ WrongPart ∷ ItemElsewhere ∷ TaskClosed ∷ LifeLimit ∷ DefectClosed ∷ OutOfOrder 0 ∷ NotExtendable ∷ AlreadyExtended
    ∷ ExtensionTooLong 0 ∷ IntervalEnded 0 ∷ WrongRevision 1 ∷ OtherAircraft ∷ OpeningTooLate ∷ OpeningTooLarge ∷ RepeatedLine ∷ []

-- the number of each fault of an input file
abbrev pub each_input_fault : List ℕ
each_input_fault = MEMORY ∷ NOT_TEXT ∷ MISSING ∷ BAD_VALUE ∷ UNKNOWN_KEY ∷ BAD_SHAPE ∷ BAD_HEADER ∷ TOO_LONG ∷ BAD_ROW ∷ READ_FAILED ∷ []

-- a stop of each word behind `fault`
abbrev pub each_stop : List Stop
each_stop =
    Words ∷ Shape ∷ MakeMemory ∷ Create table.Store ∷ Office office.NeedsReopen ∷ Office (office.Damaged name.Office) ∷ Create table.NotOurs ∷ Create table.Exists
    ∷ Open (opening.NewerLayout 3) ∷ Open (opening.OlderLayout 0) ∷ Net ∷ []

-- the numbers and words that are explained
abbrev pub explained_words : List (List ℕ)
explained_words =
    map (λ refusal. decimal (refusal_number refusal)) each_refusal
    ++ (map decimal each_input_fault ++ map (λ stop. first_word (stop_words stop)) each_stop)

-- this is explained
abbrev pub is_explained : List ℕ → Bool
is_explained what = list_any (λ word. bytes_eq word what) explained_words

-- ── the table ──

-- the texts of the table
unfoldable pub explanations : List (List ℕ)
explanations = map (λ text. text.now) EXPLANATIONS

-- the text that explains it: the one that begins with it
abbrev pub explanation_of : List ℕ → Option (List ℕ)
explanation_of what = find (λ text. bytes_eq (first_word text) what) explanations
