-- What a verdict of new says of the registrations, the serial numbers and the defects.
use Rattle.std.proofs.Common.{◌≡◌, List, [], ◌∷◌, ◌++◌, ℕ, Bool, true, false, ◌||◌, Option, Some, None, refl, sym, ap, ◌∙◌}
use Rattle.std.specs.Prelude.{not, is_some, is_none}
use Rattle.std.specs.List.{list_any, flat_map, AllByRecursion}
use Rattle.std.proofs.lemmas.List.Folds.{list_any-append}
use Rattle.mx_book.specs.commands.Act.{Act, Entry, Added, Listed, Opened, Flown, Fitted, Removed, Released, Deferred, Extended}
use Rattle.mx_book.specs.declared.commands.aircraft.Aircraft.{Aircraft}
use Rattle.mx_book.specs.declared.commands.component.Component.{Component}
use Rattle.mx_book.specs.declared.commands.item.Item.{Item}
use Rattle.mx_book.specs.declared.commands.item.Item.TheVariants as items
use Rattle.mx_book.specs.declared.commands.opening.Opening.{Opening}
use Rattle.mx_book.specs.declared.commands.sector.Sector.{Sector}
use Rattle.mx_book.specs.declared.commands.fitting.Fitting.{Fitting}
use Rattle.mx_book.specs.declared.commands.fitting.Removal.{Removal}
use Rattle.mx_book.specs.declared.commands.release.Release.{Release}
use Rattle.mx_book.specs.declared.commands.release.Line.{Line}
use Rattle.mx_book.specs.declared.commands.release.Line.TheVariants.{Done, Rectified}
use Rattle.mx_book.specs.declared.commands.deferral.Deferral.{Deferral}
use Rattle.mx_book.specs.declared.commands.deferral.Extension.{Extension}
use Rattle.mx_book.specs.declared.verdict.Refusal.{Refusal}
use Rattle.mx_book.specs.declared.verdict.Refusal.TheVariants.{Full, UnknownAircraft, UnknownComponent, UnknownPosition, UnknownProgramme, UnknownTask, UnknownDefect, AircraftExists, ComponentExists}
use Rattle.mx_book.specs.declared.verdict.Verdict.TheVariants.{New}
use Rattle.mx_book.specs.Register.{aircraft, component}
use Rattle.mx_book.specs.Defect.{defect}
use Rattle.mx_book.specs.Judge.{judge, judge_by, refusals, first_of, when, verdict_of, is_full, names_unknown_aircraft, names_unknown_component, names_unknown_position, names_unknown_programme, names_unknown_task, names_unknown_defect, aircraft_exists, component_exists, item_tails, item_serials, item_at, line_tails, line_serials, line_defects}
use Rattle.mx_book.specs.Book.{is_new}
use Rattle.mx_registers.specs.Names.{has_item}
use Rattle.mx_book.proofs.JudgeLemmas.{is_new-New}
use Rattle.mx_book.proofs.KnownLemmas.{unknown_document}

unrefused : (r : Option Refusal) → verdict_of r ≡ New → r ≡ None
unrefused None h = refl
unrefused (Some refusal) h = (cc)

-- none of its refusals applies to a command that is new
not_refused : (book : List Entry) (command : Entry) → is_new (judge book command) ≡ true → first_of (refusals book command.act) ≡ None
not_refused book command h =
    let new = is_new-New (judge book command) h in
    unrefused (first_of (refusals book command.act)) (sym (ap (judge_by book command) (unknown_document book command new)) ∙ new)

-- where no refusal applies the first does not, and none of the others
first_none : (b : Bool) (refusal : Refusal) (others : List (Option Refusal)) → first_of (when b refusal ∷ others) ≡ None → (b ≡ false) × (first_of others ≡ None)
first_none true refusal others h = (cc)
first_none false refusal others h = (refl, h)

-- of a command that is new each name that it names is known, and the name that it adds is not
record IsFresh (book : List Entry) (act : Act) : Type 0 where
  pub aircraft_known : names_unknown_aircraft book act ≡ false
  pub component_known : names_unknown_component book act ≡ false
  pub defect_known : names_unknown_defect book act ≡ false
  pub aircraft_free : aircraft_exists book act ≡ false
  pub component_free : component_exists book act ≡ false

is_fresh : (book : List Entry) (command : Entry) → is_new (judge book command) ≡ true → IsFresh book command.act
is_fresh book command h =
    let act = command.act in
    let one = first_none (is_full book act) Full _ (not_refused book command h) in
    let two = first_none (names_unknown_aircraft book act) UnknownAircraft _ one.1 in
    let three = first_none (names_unknown_component book act) UnknownComponent _ two.1 in
    let four = first_none (names_unknown_position book act) UnknownPosition _ three.1 in
    let five = first_none (names_unknown_programme book act) UnknownProgramme _ four.1 in
    let six = first_none (names_unknown_task book act) UnknownTask _ five.1 in
    let seven = first_none (names_unknown_defect book act) UnknownDefect _ six.1 in
    let eight = first_none (aircraft_exists book act) AircraftExists _ seven.1 in
    let nine = first_none (component_exists book act) ComponentExists _ eight.1 in
    record { aircraft_known = two.0; component_known = three.0; defect_known = seven.0; aircraft_free = eight.0; component_free = nine.0 }

known : (b : Bool) → not b || false ≡ false → b ≡ true
known true h = refl
known false h = (cc)

-- an aircraft that is added has a registration that none had
pub added_is_unknown : (book : List Entry) (doc : List ℕ) (a : Aircraft) (positions : List (List ℕ × List ℕ)) → is_new (judge book (record { doc = doc; act = Added a positions })) ≡ true → is_some (aircraft book a.tail) ≡ false
added_is_unknown book doc a positions h = (is_fresh book (record { doc = doc; act = Added a positions }) h).aircraft_free

-- a component that is added has a serial number that none had
pub listed_is_unknown : (book : List Entry) (doc : List ℕ) (c : Component) → is_new (judge book (record { doc = doc; act = Listed c })) ≡ true → is_some (component book c.serial) ≡ false
listed_is_unknown book doc c h = (is_fresh book (record { doc = doc; act = Listed c }) h).component_free

-- a sector that is entered names an aircraft
pub flown_is_known : (book : List Entry) (doc : List ℕ) (s : Sector) → is_new (judge book (record { doc = doc; act = Flown s })) ≡ true → is_some (aircraft book s.tail) ≡ true
flown_is_known book doc s h = known (is_some (aircraft book s.tail)) (is_fresh book (record { doc = doc; act = Flown s }) h).aircraft_known

-- a fitting that is entered names an aircraft and a component
pub fitted_is_known : (book : List Entry) (doc : List ℕ) (f : Fitting) → is_new (judge book (record { doc = doc; act = Fitted f })) ≡ true → (is_some (aircraft book f.tail) ≡ true) × (is_some (component book f.serial) ≡ true)
fitted_is_known book doc f h =
    let fresh = is_fresh book (record { doc = doc; act = Fitted f }) h in
    (known (is_some (aircraft book f.tail)) fresh.aircraft_known, known (is_some (component book f.serial)) fresh.component_known)

-- a removal that is entered names a component
pub removed_is_known : (book : List Entry) (doc : List ℕ) (r : Removal) → is_new (judge book (record { doc = doc; act = Removed r })) ≡ true → is_some (component book r.serial) ≡ true
removed_is_known book doc r h = known (is_some (component book r.serial)) (is_fresh book (record { doc = doc; act = Removed r }) h).component_known

-- a defect that is deferred is of an aircraft
pub deferred_is_known : (book : List Entry) (doc : List ℕ) (d : Deferral) → is_new (judge book (record { doc = doc; act = Deferred d })) ≡ true → is_some (aircraft book d.tail) ≡ true
deferred_is_known book doc d h = known (is_some (aircraft book d.tail)) (is_fresh book (record { doc = doc; act = Deferred d }) h).aircraft_known

-- an extension that is entered names a defect
pub extended_is_known : (book : List Entry) (doc : List ℕ) (x : Extension) → is_new (judge book (record { doc = doc; act = Extended x })) ≡ true → is_some (defect book x.defect) ≡ true
extended_is_known book doc x h = known (is_some (defect book x.defect)) (is_fresh book (record { doc = doc; act = Extended x }) h).defect_known

-- one of the registrations is that of no aircraft
abbrev some_unknown_tail : List Entry → List (List ℕ) → Bool
some_unknown_tail book tails = list_any (λ tail. is_none (aircraft book tail)) tails

-- one of the serial numbers is that of no component
abbrev some_unknown_serial : List Entry → List (List ℕ) → Bool
some_unknown_serial book serials = list_any (λ serial. is_none (component book serial)) serials

-- one of the documents is that of no defect
abbrev some_unknown_defect : List Entry → List (List ℕ) → Bool
some_unknown_defect book docs = list_any (λ doc. is_none (defect book doc)) docs

-- an item whose name is known is in the book
item_named : (book : List Entry) (item : Item) → some_unknown_tail book (item_tails item) ≡ false → some_unknown_serial book (item_serials item) ≡ false → has_item book item ≡ true
item_named book (items.Airframe tail) h g = known (is_some (aircraft book tail)) h
item_named book (items.Component serial) h g = known (is_some (component book serial)) g

-- an opening that is entered names an item
pub opened_is_known : (book : List Entry) (doc : List ℕ) (o : Opening) → is_new (judge book (record { doc = doc; act = Opened o })) ≡ true → has_item book o.item ≡ true
opened_is_known book doc o h =
    let fresh = is_fresh book (record { doc = doc; act = Opened o }) h in
    item_named book o.item fresh.aircraft_known fresh.component_known

both_false : (a b : Bool) → a || b ≡ false → (a ≡ false) × (b ≡ false)
both_false true b h = (cc)
both_false false b h = (refl, h)

-- where no element of two lists passes a test, none of the first does and none of the second
none_of_both : {X : Type 0} (test : X → Bool) (xs ys : List X) → list_any test (xs ++ ys) ≡ false → (list_any test xs ≡ false) × (list_any test ys ≡ false)
none_of_both test xs ys h = both_false (list_any test xs) (list_any test ys) (sym (list_any-append test xs ys) ∙ h)

-- the book has what the line is of: the item that the task was done on, or the defect that was rectified
abbrev pub has_line : List Entry → Line → Bool
has_line book (Done item task) = has_item book item
has_line book (Rectified doc) = is_some (defect book doc)

-- the book has what each line is of
abbrev pub HasLines : List Entry → List Line → Type 0
HasLines book lines = AllByRecursion (λ line. has_line book line ≡ true) lines

line_named : (book : List Entry) (line : Line) → some_unknown_tail book (line_tails line) ≡ false → some_unknown_serial book (line_serials line) ≡ false → some_unknown_defect book (line_defects line) ≡ false → has_line book line ≡ true
line_named book (Done item task) h g d = item_named book item h g
line_named book (Rectified doc) h g d = known (is_some (defect book doc)) d

lines_named : (book : List Entry) (lines : List Line) → some_unknown_tail book (flat_map line_tails lines) ≡ false → some_unknown_serial book (flat_map line_serials lines) ≡ false
    → some_unknown_defect book (flat_map line_defects lines) ≡ false → HasLines book lines
lines_named book [] h g d = tt
lines_named book (line ∷ lines) h g d =
    let tails = none_of_both (λ tail. is_none (aircraft book tail)) (line_tails line) (flat_map line_tails lines) h in
    let serials = none_of_both (λ serial. is_none (component book serial)) (line_serials line) (flat_map line_serials lines) g in
    let defects = none_of_both (λ doc. is_none (defect book doc)) (line_defects line) (flat_map line_defects lines) d in
    (line_named book line tails.0 serials.0 defects.0, lines_named book lines tails.1 serials.1 defects.1)

-- a release that is entered names an item for its place, and items and defects in its lines
pub released_is_known : (book : List Entry) (doc : List ℕ) (r : Release) (lines : List Line) → is_new (judge book (record { doc = doc; act = Released r lines })) ≡ true → (has_item book (item_at r.place) ≡ true) × HasLines book lines
released_is_known book doc r lines h =
    let fresh = is_fresh book (record { doc = doc; act = Released r lines }) h in
    let tails = none_of_both (λ tail. is_none (aircraft book tail)) (item_tails (item_at r.place)) (flat_map line_tails lines) fresh.aircraft_known in
    let serials = none_of_both (λ serial. is_none (component book serial)) (item_serials (item_at r.place)) (flat_map line_serials lines) fresh.component_known in
    (item_named book (item_at r.place) tails.0 serials.0, lines_named book lines tails.1 serials.1 fresh.defect_known)
