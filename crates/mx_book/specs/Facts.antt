-- What there is against a command: the tests of its refusals, gathered before it is judged.
use Rattle.std.specs.Prelude.{ℕ, List, [], ◌∷◌, Bool, true, false, not, ◌&&◌, ◌||◌, Option, is_none, is_some, max, ◌/◌}
use Rattle.std.specs.List.{list_any}
use Rattle.std.specs.Option.{option_map, option_map_or, option_and_then}
use Rattle.mx_book.specs.commands.Act.{Entry, Opened}
use Rattle.mx_book.specs.commands.Bounds.{are_distinct}
use Rattle.mx_book.specs.commands.Same.{same_line}
use Rattle.mx_book.specs.declared.commands.fitting.Fitting.{Fitting}
use Rattle.mx_book.specs.declared.commands.item.Item.{Item}
use Rattle.mx_book.specs.declared.commands.item.Item.TheVariants.{Airframe, Component}
use Rattle.mx_book.specs.declared.commands.opening.Opening.{Opening}
use Rattle.mx_book.specs.declared.commands.programme.Task.{Task}
use Rattle.mx_book.specs.declared.commands.release.Line.{Line}
use Rattle.mx_book.specs.declared.commands.release.Line.TheVariants.{Done, Rectified}
use Rattle.mx_book.specs.declared.commands.release.Place.{Place}
use Rattle.mx_book.specs.declared.facts.FittingFacts.{FittingFacts}
use Rattle.mx_book.specs.declared.facts.LineFacts.{LineFacts}
use Rattle.mx_book.specs.declared.facts.OpeningFacts.{OpeningFacts}
use Rattle.mx_book.specs.declared.facts.PlaceFacts.{PlaceFacts}
use Rattle.mx_book.specs.declared.verdict.Refusal.{Refusal}
use Rattle.mx_book.specs.declared.verdict.Refusal.TheVariants.{UnknownAircraft, UnknownComponent, UnknownProgramme, UnknownTask, UnknownDefect, AlreadyFitted, ItemElsewhere, TaskClosed, LifeLimit, DefectClosed, OutOfOrder, OtherAircraft, RepeatedLine}
use Rattle.mx_book.specs.Register.{aircraft, component}
use Rattle.mx_book.specs.Span.{fitted, is_taken}
use Rattle.mx_book.specs.Life.{clock}
use Rattle.mx_book.specs.Programme.{applies_to, kind_at, is_accomplished, life_ended}
use Rattle.mx_book.specs.Defect.{defect, is_rectified}
use Rattle.mx_book.specs.Asking.{task_by}
use Rattle.mx_book.specs.Judge.{item_tails, item_serials, item_at, when, clock_passed, fitted_in_shop, is_of_other_kind, opening_too_late, opening_too_large, is_at, is_of_other_aircraft}

-- what there is against some of these: what there is against one of them
abbrev pub facts_of_all : {X : Type 0} → (X → LineFacts) → List X → LineFacts
facts_of_all facts xs = record {
  unknown_aircraft = list_any (λ x. (facts x).unknown_aircraft) xs;
  unknown_component = list_any (λ x. (facts x).unknown_component) xs;
  without_programme = list_any (λ x. (facts x).without_programme) xs;
  unknown_task = list_any (λ x. (facts x).unknown_task) xs;
  unknown_defect = list_any (λ x. (facts x).unknown_defect) xs;
  item_elsewhere = list_any (λ x. (facts x).item_elsewhere) xs;
  closed_task = list_any (λ x. (facts x).closed_task) xs;
  retirement = list_any (λ x. (facts x).retirement) xs;
  closed_defect = list_any (λ x. (facts x).closed_defect) xs;
  other_aircraft = list_any (λ x. (facts x).other_aircraft) xs;
}

-- nothing against a line
abbrev pub no_facts : LineFacts
no_facts = facts_of_all (λ facts. facts) []

-- the task that was found applies to the item
abbrev pub is_applied : List Entry → Item → Option (Option Task) → Bool
is_applied book item task = option_map_or (applies_to book item) (option_and_then (λ t. t) task) false

-- the task that was found has no repeat, or none was found
abbrev pub has_no_repeat : Option (Option Task) → Bool
has_no_repeat task = option_map_or (λ t. is_none t.repeat) (option_and_then (λ t. t) task) true

-- the task that was found retires its item
abbrev pub is_retiring : Option (Option Task) → Bool
is_retiring task = option_map_or (λ t. t.retire) (option_and_then (λ t. t) task) false

-- a line certifies work on an item by this task
abbrev pub work_facts : List Entry → Place → Item → List ℕ → Option (Option Task) → LineFacts
work_facts book place item id task = record {
  unknown_aircraft = list_any (λ tail. is_none (aircraft book tail)) (item_tails item);
  unknown_component = list_any (λ serial. is_none (component book serial)) (item_serials item);
  without_programme = is_none task;
  unknown_task = not (is_applied book item task);
  unknown_defect = false;
  item_elsewhere = not (is_at book place item);
  closed_task = is_accomplished book item id && has_no_repeat task;
  retirement = is_retiring task;
  closed_defect = false;
  other_aircraft = false;
}

-- a line certifies that a defect was rectified
abbrev pub rectified_facts : List Entry → Place → List ℕ → LineFacts
rectified_facts book place doc = record no_facts {
  unknown_defect = is_none (defect book doc);
  closed_defect = is_rectified book doc;
  other_aircraft = is_of_other_aircraft book place doc;
}

-- what there is against one line, by the programme of a kind
abbrev pub line_facts : List Entry → Place → Option (List ℕ) → Line → LineFacts
line_facts book place kind (Done item id) = work_facts book place item id (task_by book kind id)
line_facts book place kind (Rectified doc) = rectified_facts book place doc

-- what there is against some lines, by the programme of a kind
abbrev pub lines_facts : List Entry → Place → Option (List ℕ) → List Line → LineFacts
lines_facts book place kind lines = facts_of_all (line_facts book place kind) lines

-- what there is against one line or another
abbrev pub either : LineFacts → LineFacts → LineFacts
either a b = record {
  unknown_aircraft = a.unknown_aircraft || b.unknown_aircraft;
  unknown_component = a.unknown_component || b.unknown_component;
  without_programme = a.without_programme || b.without_programme;
  unknown_task = a.unknown_task || b.unknown_task;
  unknown_defect = a.unknown_defect || b.unknown_defect;
  item_elsewhere = a.item_elsewhere || b.item_elsewhere;
  closed_task = a.closed_task || b.closed_task;
  retirement = a.retirement || b.retirement;
  closed_defect = a.closed_defect || b.closed_defect;
  other_aircraft = a.other_aircraft || b.other_aircraft;
}

-- what there is against a place
abbrev pub place_facts : List Entry → Place → PlaceFacts
place_facts book place = record {
  unknown_aircraft = list_any (λ tail. is_none (aircraft book tail)) (item_tails (item_at place));
  unknown_component = list_any (λ serial. is_none (component book serial)) (item_serials (item_at place));
  kind = kind_at book place;
  fitted_in_shop = fitted_in_shop book place;
  clock = clock book (item_at place);
}

-- what there is against a fitting to an aircraft of a kind
abbrev pub fitting_facts : List Entry → List ℕ → Fitting → FittingFacts
fitting_facts book kind f = record {
  taken = is_taken book f.tail f.position;
  fitted = is_some (fitted book f.serial);
  retired = life_ended book kind (Component f.serial) (f.moment / 1440);
  clock = max (clock book (Airframe f.tail)) (clock book (Component f.serial));
}

-- what there is against the opening of this task
abbrev pub opening_facts : List Entry → Opening → Task → OpeningFacts
opening_facts book o t = record {
  applies = applies_to book o.item t;
  accomplished = is_accomplished book o.item o.task;
  other_kind = is_of_other_kind book o.kind o.item;
  too_late = opening_too_late book (Opened o);
  too_large = opening_too_large book (Opened o);
}

-- the refusals of a release by what there is against its place and its lines, where there is room for an entry
abbrev pub release_refusals : PlaceFacts → LineFacts → ℕ → List Line → List (Option Refusal)
release_refusals at facts moment lines =
    when (at.unknown_aircraft || facts.unknown_aircraft) UnknownAircraft
    ∷ when (at.unknown_component || facts.unknown_component) UnknownComponent
    ∷ when facts.without_programme UnknownProgramme
    ∷ when facts.unknown_task UnknownTask
    ∷ when facts.unknown_defect UnknownDefect
    ∷ when at.fitted_in_shop AlreadyFitted
    ∷ when facts.item_elsewhere ItemElsewhere
    ∷ when facts.closed_task TaskClosed
    ∷ when facts.retirement LifeLimit
    ∷ when facts.closed_defect DefectClosed
    ∷ option_map OutOfOrder (clock_passed moment at.clock)
    ∷ when facts.other_aircraft OtherAircraft
    ∷ when (not (are_distinct same_line lines)) RepeatedLine
    ∷ []
