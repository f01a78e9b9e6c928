-- The test of two commands decides whether they are equal.
use Rattle.std.proofs.Common.{rules, ◌≡◌, refl, sym, ◌∙◌, ap, ℕ, List, Bool, true, false, ◌&&◌, Option, nat_eq}
use Rattle.std.proofs.Math.Path.{fun_ext}
use mathlib.Core.Bool.{beq}
use Rattle.std.specs.Bool.{Decides}
use Rattle.std.specs.Option.{option_eq}
use Rattle.std.specs.Cmp.Lexicographic.{pointwise}
use Rattle.std.proofs.lemmas.Slice.Eq.{slice_eq-Decides}
use Rattle.mx_base.specs.declared.amounts.Limit.{Limit}
use Rattle.mx_base.specs.declared.amounts.Tolerance.{Tolerance}
use Rattle.mx_base.specs.contracts.amounts.LimitPartialEq.TheImpl as limit
use Rattle.mx_base.specs.contracts.amounts.TolerancePartialEq.TheImpl as tolerance
use Rattle.mx_book.specs.commands.Act.{Act, Entry, act_of, Added, Listed, Loaded, Opened, Flown, Fitted, Removed, Released, Deferred, Extended}
use Rattle.mx_book.specs.commands.Same.{same_act, same_entry, same_text, same_position, same_use, same_item, same_limit, same_tolerance, same_applies, same_task, same_place, same_line, same_category}
use Rattle.mx_book.specs.declared.commands.body.Body.{Body}
use Rattle.mx_book.specs.declared.commands.body.Body.TheVariants as bodies
use Rattle.mx_book.specs.declared.commands.aircraft.Aircraft.{Aircraft}
use Rattle.mx_base.specs.declared.category.Category.{Category}
use Rattle.mx_base.specs.declared.category.Category.TheVariants as categories
use Rattle.mx_book.specs.declared.commands.deferral.Deferral.{Deferral}
use Rattle.mx_book.specs.declared.commands.item.Item.{Item}
use Rattle.mx_book.specs.declared.commands.item.Item.TheVariants as items
use Rattle.mx_book.specs.declared.commands.opening.Opening.{Opening}
use Rattle.mx_book.specs.declared.commands.programme.Applies.{Applies}
use Rattle.mx_book.specs.declared.commands.programme.Applies.TheVariants as applied
use Rattle.mx_book.specs.declared.commands.programme.Programme.{Programme}
use Rattle.mx_book.specs.declared.commands.programme.Task.{Task}
use Rattle.mx_book.specs.declared.commands.release.Line.{Line}
use Rattle.mx_book.specs.declared.commands.release.Line.TheVariants as lined
use Rattle.mx_book.specs.declared.commands.release.Place.{Place}
use Rattle.mx_book.specs.declared.commands.release.Place.TheVariants as placed
use Rattle.mx_book.specs.declared.commands.release.Release.{Release}
use Rattle.mx_book.specs.declared.commands.sector.Sector.{Sector}
use Rattle.mx_book.specs.contracts.commands.body.BodyPartialEq.TheImpl as body
use Rattle.mx_book.specs.contracts.commands.sector.SectorPartialEq.TheImpl as sector
use Rattle.mx_book.specs.contracts.commands.aircraft.AircraftPartialEq.TheImpl as aircraft
use Rattle.mx_base.specs.contracts.category.CategoryPartialEq.TheImpl as category
use Rattle.mx_book.specs.contracts.commands.deferral.DeferralPartialEq.TheImpl as deferral
use Rattle.mx_book.specs.contracts.commands.item.ItemPartialEq.TheImpl as item
use Rattle.mx_book.specs.contracts.commands.opening.OpeningPartialEq.TheImpl as opening
use Rattle.mx_book.specs.contracts.commands.programme.AppliesPartialEq.TheImpl as applies
use Rattle.mx_book.specs.contracts.commands.programme.ProgrammePartialEq.TheImpl as programme
use Rattle.mx_book.specs.contracts.commands.programme.TaskPartialEq.TheImpl as task
use Rattle.mx_book.specs.contracts.commands.release.LinePartialEq.TheImpl as line
use Rattle.mx_book.specs.contracts.commands.release.PlacePartialEq.TheImpl as place
use Rattle.mx_book.specs.contracts.commands.release.ReleasePartialEq.TheImpl as release

-- ── the derived tests are those of the fields ──

-- the derived test of two items is that of their names
pub item_is : (a b : Item) → (item.ghosts).eq a b ≡ same_item a b
item_is (items.Airframe a) (items.Airframe b) = refl
item_is (items.Component a) (items.Component b) = refl
item_is _ _ = refl

opening_is : (a b : Opening) → (opening.ghosts).eq a b ≡ same_act (Opened a) (Opened b)
opening_is a b =
    ap (λ same. same && (same_text a.kind b.kind && (same_text a.task b.task && (same_use a.use_then b.use_then && nat_eq a.day b.day)))) (item_is a.item b.item)

applies_is : (a b : Applies) → (applies.ghosts).eq a b ≡ same_applies a b
applies_is applied.Airframe applied.Airframe = refl
applies_is (applied.Part a) (applied.Part b) = refl
applies_is _ _ = refl

task_is : (a b : Task) → (task.ghosts).eq a b ≡ same_task a b
task_is a b =
    ap (λ same. same_text a.id b.id && (same && (same_limit a.first b.first && (option_eq same_limit a.repeat b.repeat && (same_tolerance a.tolerance b.tolerance && beq a.retire b.retire)))))
    (applies_is a.applies b.applies)

tasks_are : (kind kind' : List ℕ) (revision revision' : ℕ) (tasks tasks' : List Task)
    → same_text kind kind' && (nat_eq revision revision' && pointwise (task.ghosts).eq tasks tasks') ≡ same_text kind kind' && (nat_eq revision revision' && pointwise same_task tasks tasks')
tasks_are kind kind' revision revision' tasks tasks' =
    ap (λ (same : Task → Task → Bool). same_text kind kind' && (nat_eq revision revision' && pointwise same tasks tasks')) (fun_ext (λ a. fun_ext (λ b. task_is a b)))

place_is : (a b : Place) → (place.ghosts).eq a b ≡ same_place a b
place_is (placed.Aircraft a) (placed.Aircraft b) = refl
place_is (placed.Shop a kind) (placed.Shop b kind') = refl
place_is _ _ = refl

-- the derived test of two lines is that of what they certify
pub line_is : (a b : Line) → (line.ghosts).eq a b ≡ same_line a b
line_is (lined.Done a task) (lined.Done b task') = ap (λ same. same && same_text task task') (item_is a b)
line_is (lined.Rectified a) (lined.Rectified b) = refl
line_is _ _ = refl

lines_are : (p p' : Place) (moment moment' : ℕ) (lines lines' : List Line)
    → (place.ghosts).eq p p' && (nat_eq moment moment' && pointwise (line.ghosts).eq lines lines') ≡ same_place p p' && (nat_eq moment moment' && pointwise same_line lines lines')
lines_are p p' moment moment' lines lines' =
    ap (λ (same : Line → Line → Bool). (place.ghosts).eq p p' && (nat_eq moment moment' && pointwise same lines lines')) (fun_ext (λ a. fun_ext (λ b. line_is a b)))
    ∙ ap (λ same. same && (nat_eq moment moment' && pointwise same_line lines lines')) (place_is p p')

category_is : (a b : Category) → (category.ghosts).eq a b ≡ same_category a b
category_is (categories.A a) (categories.A b) = refl
category_is categories.B categories.B = refl
category_is categories.C categories.C = refl
category_is categories.D categories.D = refl
category_is _ _ = refl

deferral_is : (a b : Deferral) → (deferral.ghosts).eq a b ≡ same_act (Deferred a) (Deferred b)
deferral_is a b = ap (λ same. same_text a.tail b.tail && (nat_eq a.moment b.moment && (same_text a.reference b.reference && same))) (category_is a.category b.category)

-- the derived test of two bodies is that of what they say
pub body_same : (a b : Body) → (body.ghosts).eq a b ≡ same_act (act_of a) (act_of b)
body_same (bodies.AddAircraft tail kind birth opening as_of positions) (bodies.AddAircraft tail' kind' birth' opening' as_of' positions') = refl
body_same (bodies.AddComponent serial part birth opening as_of) (bodies.AddComponent serial' part' birth' opening' as_of') = refl
body_same (bodies.LoadProgramme kind revision tasks) (bodies.LoadProgramme kind' revision' tasks') = tasks_are kind kind' revision revision' tasks.items tasks'.items
body_same (bodies.Opening item kind task use_then day) (bodies.Opening item' kind' task' use_then' day') =
    opening_is (record { item = item; kind = kind; task = task; use_then = use_then; day = day }) (record { item = item'; kind = kind'; task = task'; use_then = use_then'; day = day' })
body_same (bodies.Sector tail page line off on cycles) (bodies.Sector tail' page' line' off' on' cycles') = refl
body_same (bodies.Fit serial tail position moment) (bodies.Fit serial' tail' position' moment') = refl
body_same (bodies.Remove serial moment) (bodies.Remove serial' moment') = refl
body_same (bodies.Release p moment lines) (bodies.Release p' moment' lines') = lines_are p p' moment moment' lines.items lines'.items
body_same (bodies.Defer tail moment reference c) (bodies.Defer tail' moment' reference' c') =
    deferral_is (record { tail = tail; moment = moment; reference = reference; category = c }) (record { tail = tail'; moment = moment'; reference = reference'; category = c' })
body_same (bodies.Extend defect day days) (bodies.Extend defect' day' days') = refl
body_same _ _ = refl

-- ── each test decides whether its things are equal ──

pub text_same : (a b : List ℕ) → Decides (same_text a b) (a ≡ b)
text_same a b = search rules

position_same : (a b : List ℕ × List ℕ) → Decides (same_position a b) (a ≡ b)
position_same a b = search rules

positions_same : (xs ys : List (List ℕ × List ℕ)) → Decides (pointwise same_position xs ys) (xs ≡ ys)
positions_same xs ys = slice_eq-Decides position_same xs ys _ refl

sector_same : (a b : Sector) → Decides ((sector.ghosts).eq a b) (a ≡ b)
sector_same a b = search rules

aircraft_same : (a b : Aircraft) → Decides ((aircraft.ghosts).eq a b) (a ≡ b)
aircraft_same a b = search rules

and_true : (p q : Bool) → p && q ≡ true → (p ≡ true) × (q ≡ true)
and_true true true h = (refl, refl)
and_true true false h = (cc)
and_true false q h = (cc)

-- two tests, each of which decides a fact
both : {p q : Bool} {P Q : Type 0} → Decides p P → Decides q Q → Decides (p && q) (P × Q)
both {p} {q} {P} {Q} d e = search (rules, and_true)

and_assoc : (p q r : Bool) → (p && q) && r ≡ p && (q && r)
and_assoc true q r = refl
and_assoc false q r = refl

-- a test that is the same decides the same
decides_along : {p q : Bool} (P : Type 0) → p ≡ q → Decides p P → Decides q P
decides_along P e d = (λ h. d.0 (e ∙ h), λ x. sym e ∙ d.1 x)

added_same : (a b : Aircraft) (ps qs : List (List ℕ × List ℕ)) → Decides ((aircraft.ghosts).eq a b && pointwise same_position ps qs) (Added a ps ≡ Added b qs)
added_same a b ps qs = search (rules, aircraft_same, positions_same, both)

-- ── programmes and openings ──

limit_same : (a b : Limit) → Decides ((limit.ghosts).eq a b) (a ≡ b)
limit_same a b = search rules

tolerance_same : (a b : Tolerance) → Decides ((tolerance.ghosts).eq a b) (a ≡ b)
tolerance_same a b = search rules

repeat_same : (a b : Option Limit) → Decides (option_eq (limit.ghosts).eq a b) (a ≡ b)
repeat_same a b = search rules

applies_decides : (a b : Applies) → Decides ((applies.ghosts).eq a b) (a ≡ b)
applies_decides a b = search rules

applies_same : (a b : Applies) → Decides (same_applies a b) (a ≡ b)
applies_same a b = decides_along _ (applies_is a b) (applies_decides a b)

retire_same : (a b : Bool) → Decides (beq a b) (a ≡ b)
retire_same a b = search rules

task_with : List ℕ → Applies → Limit → Option Limit → Tolerance → Bool → Task
task_with id applies first repeat tolerance retire = record { id = id; applies = applies; first = first; repeat = repeat; tolerance = tolerance; retire = retire }

task_made : (a b : Task) → a.id ≡ b.id → a.applies ≡ b.applies → a.first ≡ b.first → a.repeat ≡ b.repeat → a.tolerance ≡ b.tolerance → a.retire ≡ b.retire
    → task_with a.id a.applies a.first a.repeat a.tolerance a.retire ≡ task_with b.id b.applies b.first b.repeat b.tolerance b.retire
task_made a b p q r s t u = cc

task_from : (a b : Task) → a.id ≡ b.id → a.applies ≡ b.applies → a.first ≡ b.first → a.repeat ≡ b.repeat → a.tolerance ≡ b.tolerance → a.retire ≡ b.retire → a ≡ b
unfolding task_with
task_from a b p q r s t u = task_made a b p q r s t u

task_same : (a b : Task) → Decides (same_task a b) (a ≡ b)
task_same a b =
    let d = both (text_same a.id b.id) (both (applies_same a.applies b.applies) (both (limit_same a.first b.first)
    (both (repeat_same a.repeat b.repeat) (both (tolerance_same a.tolerance b.tolerance) (retire_same a.retire b.retire))))) in (
      λ h. let f = d.0 h in task_from a b f.0 f.1.0 f.1.1.0 f.1.1.1.0 f.1.1.1.1.0 f.1.1.1.1.1,
      λ e. d.1 (ap (λ t. t.id) e, (ap (λ t. t.applies) e, (ap (λ t. t.first) e, (ap (λ t. t.repeat) e, (ap (λ t. t.tolerance) e, ap (λ t. t.retire) e))))),
    )

tasks_same : (xs ys : List Task) → Decides (pointwise same_task xs ys) (xs ≡ ys)
tasks_same xs ys = slice_eq-Decides task_same xs ys _ refl

programme_same : (a b : Programme) → Decides ((programme.ghosts).eq a b) (a ≡ b)
programme_same a b = search rules

loaded_same : (a b : Programme) (ts us : List Task) → Decides ((programme.ghosts).eq a b && pointwise same_task ts us) (Loaded a ts ≡ Loaded b us)
loaded_same a b ts us = search (rules, programme_same, tasks_same, both)

opened_same : (a b : Opening) → Decides ((opening.ghosts).eq a b) (Opened a ≡ Opened b)
opened_same a b = search rules

-- ── releases ──

place_decides : (a b : Place) → Decides ((place.ghosts).eq a b) (a ≡ b)
place_decides a b = search rules

item_decides : (a b : Item) → Decides ((item.ghosts).eq a b) (a ≡ b)
item_decides a b = search rules

line_decides : (a b : Line) → Decides ((line.ghosts).eq a b) (a ≡ b)
line_decides a b = search rules

line_same : (a b : Line) → Decides (same_line a b) (a ≡ b)
line_same a b = decides_along _ (line_is a b) (line_decides a b)

lines_same : (xs ys : List Line) → Decides (pointwise same_line xs ys) (xs ≡ ys)
lines_same xs ys = slice_eq-Decides line_same xs ys _ refl

release_same : (a b : Release) → Decides ((release.ghosts).eq a b) (a ≡ b)
release_same a b = search rules

released_same : (a b : Release) (xs ys : List Line) → Decides ((release.ghosts).eq a b && pointwise same_line xs ys) (Released a xs ≡ Released b ys)
released_same a b xs ys = search (rules, release_same, lines_same, both)

released_is : (a b : Release) (xs ys : List Line) → (release.ghosts).eq a b && pointwise same_line xs ys ≡ same_act (Released a xs) (Released b ys)
released_is a b xs ys = and_assoc ((place.ghosts).eq a.place b.place) (nat_eq a.moment b.moment) (pointwise same_line xs ys)
    ∙ ap (λ same. same && (nat_eq a.moment b.moment && pointwise same_line xs ys)) (place_is a.place b.place)

-- ── defects ──

deferral_same : (a b : Deferral) → Decides ((deferral.ghosts).eq a b) (a ≡ b)
deferral_same a b = search rules

deferred_same : (a b : Deferral) → Decides ((deferral.ghosts).eq a b) (Deferred a ≡ Deferred b)
deferred_same a b = search rules

act_same : (a b : Act) → Decides (same_act a b) (a ≡ b)
act_same (Added a ps) (Added b qs) = decides_along _ (simp and_assoc) (added_same a b ps qs)
act_same (Listed a) (Listed b) = search rules
act_same (Loaded a ts) (Loaded b us) = decides_along _ (simp and_assoc) (loaded_same a b ts us)
act_same (Opened a) (Opened b) = decides_along _ (opening_is a b) (opened_same a b)
act_same (Flown a) (Flown b) = search (rules, sector_same)
act_same (Fitted a) (Fitted b) = search rules
act_same (Removed a) (Removed b) = search rules
act_same (Released a xs) (Released b ys) = decides_along _ (released_is a b xs ys) (released_same a b xs ys)
act_same (Deferred a) (Deferred b) = decides_along _ (deferral_is a b) (deferred_same a b)
act_same (Extended a) (Extended b) = search rules
act_same _ _ = ((λ h. (cc)), (λ h. (cc)))

entry_with : List ℕ → Act → Entry
entry_with doc act = record { doc = doc; act = act }

entry_made : (a b : Entry) → a.doc ≡ b.doc → a.act ≡ b.act → entry_with a.doc a.act ≡ entry_with b.doc b.act
entry_made a b p q = cc

entry_from : (a b : Entry) → a.doc ≡ b.doc → a.act ≡ b.act → a ≡ b
unfolding entry_with
entry_from a b p q = entry_made a b p q

-- two commands are the same exactly where the test says so
pub entry_same : (a b : Entry) → Decides (same_entry a b) (a ≡ b)
entry_same a b =
    let d = both (text_same a.doc b.doc) (act_same a.act b.act) in
    (λ h. entry_from a b (d.0 h).0 (d.0 h).1, λ e. d.1 (ap (λ x. x.doc) e, ap (λ x. x.act) e))
