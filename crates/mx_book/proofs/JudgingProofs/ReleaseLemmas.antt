-- What is asked for the lines of a release are the tests of its refusals.
use Rattle.std.proofs.lemmas.Bool.Decides.{nat_tests}
use Rattle.std.proofs.Common.{arith, ◌<◌, refl, sym, ap, ◌∙◌, ◌≡◌, ℕ, length, List, [], ◌∷◌, Bool, true, false, ◌||◌, Option, Some, None}
use Rattle.std.specs.Prelude.{is_none, find, nat_le}
use Rattle.std.specs.List.{list_any, filter_map}
use Rattle.std.specs.Option.{option_map, option_and_then}
use Rattle.mx_book.specs.commands.Act.{Entry, Released}
use Rattle.mx_book.specs.commands.Same.{same_text}
use Rattle.mx_book.specs.declared.commands.programme.Task.{Task}
use Rattle.mx_book.specs.declared.commands.release.Line.{Line}
use Rattle.mx_book.specs.declared.commands.release.Line.TheVariants.{Done, Rectified}
use Rattle.mx_book.specs.declared.commands.release.Place.{Place}
use Rattle.mx_book.specs.declared.commands.release.Release.{Release}
use Rattle.mx_book.specs.declared.verdict.Refusal.{Refusal}
use Rattle.mx_book.specs.Register.{aircraft, component}
use Rattle.mx_book.specs.Programme.{kind_at, tasks_in_force}
use Rattle.mx_book.specs.Defect.{defect, is_rectified}
use Rattle.mx_book.specs.Judge.{refusals, first_of, item_at, item_tails, item_serials, line_tails, line_serials, line_defects, line_without_programme, line_of_unknown_task, line_of_item_elsewhere, line_of_closed_task, line_of_retirement, line_of_other_aircraft}
use Rattle.mx_book.proofs.NamedLemmas.{any_named, any_of_both}
use Rattle.mx_book.specs.Asking.{task_by}
use Rattle.mx_book.specs.Facts.{either, facts_of_all, no_facts, line_facts, lines_facts, place_facts, release_refusals}
use Rattle.mx_book.specs.declared.facts.LineFacts.{LineFacts}
use Rattle.mx_book.specs.declared.facts.PlaceFacts.{PlaceFacts}

-- the tests of one line
abbrev line_tests : List Entry → Place → Line → LineFacts
line_tests book place line = record {
  unknown_aircraft = list_any (λ tail. is_none (aircraft book tail)) (line_tails line);
  unknown_component = list_any (λ serial. is_none (component book serial)) (line_serials line);
  without_programme = line_without_programme book place line;
  unknown_task = line_of_unknown_task book place line;
  unknown_defect = list_any (λ doc. is_none (defect book doc)) (line_defects line);
  item_elsewhere = line_of_item_elsewhere book place line;
  closed_task = line_of_closed_task book place line;
  retirement = line_of_retirement book place line;
  closed_defect = list_any (is_rectified book) (line_defects line);
  other_aircraft = line_of_other_aircraft book place line;
}

or_none : (a : Bool) → a ≡ a || false
or_none true = refl
or_none false = refl

found_by : (book : List Entry) (kind : Option (List ℕ)) (id : List ℕ) → task_by book kind id ≡ option_map (find (λ (t : Task). same_text t.id id)) (option_and_then (tasks_in_force book) kind)
found_by book None id = refl
found_by book (Some kind) id = refl

none_found : {X Y : Type 0} (f : X → Y) (o : Option X) → is_none (option_map f o) ≡ is_none o
none_found f None = refl
none_found f (Some x) = refl

found_within : {X Y : Type 0} (f : X → Option Y) (o : Option X) → option_and_then (λ y. y) (option_map f o) ≡ option_and_then f o
found_within f None = refl
found_within f (Some x) = refl

-- what is asked of a defect, by what is found of it
abbrev defect_facts : (unknown closed elsewhere : Bool) → LineFacts
defect_facts unknown closed elsewhere = record no_facts { unknown_defect = unknown; closed_defect = closed; other_aircraft = elsewhere }

line_same : (book : List Entry) (place : Place) (line : Line) → line_facts book place (kind_at book place) line ≡ line_tests book place line
line_same book place (Done item id) = simp (found_by, none_found, found_within)
line_same book place (Rectified doc) =
    ap (λ a. defect_facts a (is_rectified book doc) (line_of_other_aircraft book place (Rectified doc))) (or_none (is_none (defect book doc)))
    ∙ ap (λ b. defect_facts (is_none (defect book doc) || false) b (line_of_other_aircraft book place (Rectified doc))) (or_none (is_rectified book doc))

-- what there is against some lines, by the tests of a release
abbrev release_facts : List Entry → Place → List Line → LineFacts
release_facts book place lines = facts_of_all (line_tests book place) lines

lines_same : (book : List Entry) (place : Place) (lines : List Line) → lines_facts book place (kind_at book place) lines ≡ release_facts book place lines
lines_same book place [] = refl
lines_same book place (line ∷ later) =
    ap (λ f. either f (lines_facts book place (kind_at book place) later)) (line_same book place line)
    ∙ ap (either (line_tests book place line)) (lines_same book place later)

-- the first of some refusals
abbrev first_in : List Refusal → Option Refusal
first_in [] = None
first_in (refusal ∷ others) = Some refusal

-- the first refusal that applies is the first of those that apply
first_applied : (rs : List (Option Refusal)) → first_of rs ≡ first_in (filter_map (λ r. r) rs)
first_applied [] = refl
first_applied (None ∷ rs) = first_applied rs
first_applied (Some refusal ∷ rs) = refl

refused_by : (book : List Entry) (r : Release) (lines : List Line) → nat_le 1000000 (length book) ≡ false
    → first_of (release_refusals (place_facts book r.place) (release_facts book r.place lines) r.moment lines) ≡ first_of (refusals book (Released r lines))
refused_by book r lines room =
    let by_facts = release_refusals (place_facts book r.place) (release_facts book r.place lines) r.moment lines in
    let e = any_of_both (λ tail. is_none (aircraft book tail)) (item_tails (item_at r.place)) line_tails lines in
    let f = any_of_both (λ serial. is_none (component book serial)) (item_serials (item_at r.place)) line_serials lines in
    let d = sym (any_named (λ doc. is_none (defect book doc)) line_defects lines) in
    let x = sym (any_named (is_rectified book) line_defects lines) in
    let same : filter_map (λ r. r) by_facts ≡ filter_map (λ r. r) (refusals book (Released r lines)) = rw (e, f, d, x, room) in
    first_applied by_facts ∙ ap first_in same ∙ sym (first_applied (refusals book (Released r lines)))

-- what there is against the place and the lines of a release refuses it, where there is room for an entry
pub release_refused : (book : List Entry) (r : Release) (lines : List Line) (at : PlaceFacts) (facts : LineFacts) → nat_le 1000000 (length book) ≡ false
    → at ≡ place_facts book r.place → facts ≡ lines_facts book r.place at.kind lines
    → first_of (release_refusals at facts r.moment lines) ≡ first_of (refusals book (Released r lines))
release_refused book r lines at facts room a f =
    let same : facts ≡ release_facts book r.place lines = f ∙ ap (λ (p : PlaceFacts). lines_facts book r.place p.kind lines) a ∙ lines_same book r.place lines in
    ap (λ p. first_of (release_refusals p facts r.moment lines)) a
    ∙ ap (λ x. first_of (release_refusals (place_facts book r.place) x r.moment lines)) same
    ∙ refused_by book r lines room

-- a number of entries that is below the most leaves room for one
pub room_left : (n m : ℕ) → n < 1000000 → n ≡ m → nat_le 1000000 m ≡ false
room_left n m h e = grind (arith, nat_tests)
