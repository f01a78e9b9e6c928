-- What texts name and ask for, if each of them can be read: a registration, a document, and the question for a list of an aircraft or of all.
use Rattle.std.specs.Prelude.{ℕ, List, Bool, ◌&&◌, nat_le, Option, Some, None, if◌then◌else◌}
use Rattle.mx_base.specs.Identifier.{is_graphic, is_tail_character}
use Rattle.mx_lists.specs.declared.forecast.TheConstants.{MOST_DAYS, MOST_MINUTES, MOST_CYCLES}
use Rattle.mx_intake.specs.Form.{if_read}
use Rattle.mx_intake.specs.Vocabulary.{day_of_text, identifier_of}
use Rattle.mx_lists.specs.declared.question.Question.{Question}
use Rattle.mx_lists.specs.declared.question.Question.TheVariants.{Life, Due, Forecast, Limits, Fleet, Outlook, Deferred}

-- the registration that a text is
abbrev pub tail_of : List ℕ → Option (List ℕ)
tail_of text = identifier_of is_tail_character 8 text

-- the document that a text is
abbrev pub doc_of : List ℕ → Option (List ℕ)
doc_of text = identifier_of is_graphic 40 text

-- the question for its life, and those for a list on a day
abbrev pub life_question : List ℕ → Option Question
life_question tail = if_read (tail_of tail) (λ t. Some (Life t))

abbrev pub due_question : List ℕ → List ℕ → Option Question
due_question tail day = if_read (tail_of tail) (λ t. if_read (day_of_text day) (λ d. Some (Due t d)))

abbrev pub limits_question : List ℕ → List ℕ → Option Question
limits_question tail day = if_read (tail_of tail) (λ t. if_read (day_of_text day) (λ d. Some (Limits t d)))

-- whether a forecast looks no more days ahead than it may, at no more minutes and cycles a day
abbrev pub is_in_reach : ℕ → ℕ → ℕ → Bool
is_in_reach days minutes cycles = nat_le days MOST_DAYS && (nat_le minutes MOST_MINUTES && nat_le cycles MOST_CYCLES)

-- the question for a forecast
abbrev pub forecast_question : List ℕ → List ℕ → ℕ → ℕ → ℕ → Option Question
forecast_question tail day days minutes cycles =
    if_read (tail_of tail) (λ t.
    if_read (day_of_text day) (λ d.
    if is_in_reach days minutes cycles then Some (Forecast t d days minutes cycles) else None))

-- the question for what is due on all aircraft, and for the limits of all
abbrev pub fleet_question : List ℕ → Option Question
fleet_question day = if_read (day_of_text day) (λ d. Some (Fleet d))

abbrev pub deferred_question : List ℕ → Option Question
deferred_question day = if_read (day_of_text day) (λ d. Some (Deferred d))

-- the question for what will be due on all aircraft
abbrev pub outlook_question : List ℕ → ℕ → ℕ → ℕ → Option Question
outlook_question day days minutes cycles =
    if_read (day_of_text day) (λ d.
    if is_in_reach days minutes cycles then Some (Outlook d days minutes cycles) else None)
