-- The base of a task of an item that a new release certifies.
use Rattle.std.proofs.Common.{arith, refl, sym, subst, ap, ◌∙◌, ◌≡◌, ℕ, ◌+◌, ◌≤◌, ◌/◌, length, List, [], ◌∷◌, ◌++◌, Bool, true, false, cond, ◌&&◌, ◌||◌, Option, Some, None, append-nil, length-append, take}
use Rattle.std.specs.Prelude.{nat_le, filter, find, is_none, is_some, map, not, IfSome}
use Rattle.std.specs.List.{list_any, AllByRecursion}
use Rattle.std.specs.Option.{option_map, option_map_or, option_and_then}
use Rattle.std.proofs.lemmas.Bool.Decides.{nat_tests}
use Rattle.std.proofs.lemmas.List.Elements.{filter_map-append}
use Rattle.mx_book.specs.commands.Act.{Act, Entry, Opened, Released, sector_of}
use Rattle.mx_book.specs.commands.Bounds.{are_distinct}
use Rattle.mx_book.specs.commands.Same.{same_text, same_item, same_line}
use Rattle.mx_book.specs.commands.Shape.{act_shape}
use Rattle.mx_book.specs.declared.commands.item.Item.{Item}
use Rattle.mx_book.specs.declared.commands.item.Item.TheVariants.{Airframe, Component}
use Rattle.mx_book.specs.declared.commands.opening.Opening.{Opening}
use Rattle.mx_book.specs.declared.commands.programme.Task.{Task}
use Rattle.mx_book.specs.declared.commands.release.Line.{Line}
use Rattle.mx_book.specs.declared.commands.release.Line.TheVariants.{Done, Rectified}
use Rattle.mx_book.specs.declared.commands.release.Place.{Place}
use Rattle.mx_book.specs.declared.commands.release.Place.TheVariants as places
use Rattle.mx_book.specs.declared.commands.release.Release.{Release}
use Rattle.mx_book.specs.declared.commands.sector.Sector.{Sector}
use Rattle.mx_book.proofs.CommandsProofs.SameLemmas.{text_same}
use Rattle.mx_book.specs.due.Due.{due_after, base_done}
use Rattle.mx_book.specs.declared.verdict.Verdict.TheVariants.{New}
use Rattle.mx_book.specs.Register.{register, birth}
use Rattle.mx_book.specs.Book.{IsBook}
use Rattle.mx_book.specs.Judge.{judge, is_at, item_at, fitted_in_shop}
use Rattle.mx_book.specs.Span.{Span, spans, fitted}
use Rattle.mx_book.specs.Life.{clock, is_credited, is_within, has_landed_by, use_after, opening_of, life_at, life_now, use_or_none}
use Rattle.mx_book.specs.Programme.{is_done, kind_at, tasks_in_force, tasks_loaded, task_in_force, task_at, last_of}
use Rattle.mx_book.specs.Base.{Stated, DoneIn, accomplished_by, base, base_from, task_then}
use Rattle.mx_registers.specs.kept.Changes.{IsTimed, clock_of_place, due_at, sectors_late}
use Rattle.mx_registers.proofs.KeptProofs.PlaceLemmas.{open_is_fitted}
use Rattle.mx_registers.proofs.KeptProofs.ClockLemmas.{spans_timed}
use Rattle.mx_registers.proofs.KeptProofs.CreditLemmas.{IsFlownBy, sectors_flown}
use Rattle.mx_registers.proofs.KeptProofs.PlaceClocks.{is_placed, at_aircraft}
use Rattle.mx_registers.proofs.KeptProofs.DoneLemmas.{both, item_same, done_there, kind_kept, kind_known}
use Rattle.mx_registers.proofs.KeptProofs.BaseGrowth.{base-more, life_more_none, birth_kept}
use Rattle.mx_registers.proofs.KeptProofs.JudgedLemmas.{new-timely, not_passed, new-distinct, new-in_shop}

-- ── every sector that an item is credited with has landed by the clock of its place ──

pub within_tail : (s : Sector) (span : Span) → is_within s span ≡ true → span.tail ≡ s.tail
within_tail s span h = (text_same span.tail s.tail).0 (both (same_text span.tail s.tail) (nat_le span.from s.off && option_map_or (λ to. nat_le s.on to) span.to true) h).0

pub landed_to : (s : Sector) (span : Span) (m : ℕ) → span.to ≡ Some m → is_within s span ≡ true → s.on ≤ m
landed_to s span m e h =
    let inside = (both (same_text span.tail s.tail) (nat_le span.from s.off && option_map_or (λ to. nat_le s.on to) span.to true) h).1 in
    let by = (both (nat_le span.from s.off) (option_map_or (λ to. nat_le s.on to) span.to true) inside).1 in
    let test : nat_le s.on m ≡ true = ap (λ o. option_map_or (λ to. nat_le s.on to) o true) (sym e) ∙ by in
    grind (arith, nat_tests)

-- a sector within a span of a component has landed by the clock of the component's place
span_landed : (book : List Entry) (serial : List ℕ) (s : Sector) (span : Span) → IsBook book → s.on ≤ clock book (Airframe s.tail) → IsTimed book span → (same_text span.serial serial && is_none span.to ≡ true → fitted book serial ≡ Some span)
    → same_text span.serial serial ≡ true → is_within s span ≡ true → s.on ≤ clock_of_place book (Component serial)
span_landed book serial s span b flown timed only of inside = at span.to refl timed.1
  where
    at : (o : Option ℕ) → span.to ≡ o → IfSome o (λ m. (m ≤ clock book (Airframe span.tail)) × (m ≤ clock book (Component span.serial))) → s.on ≤ clock_of_place book (Component serial)
    at None e t =
        let there = only (ap (λ c. c && is_none span.to) of ∙ ap is_none e) in
        let place : clock_of_place book (Component serial) ≡ clock book (Airframe span.tail) = ap (λ (o : Option Span). option_map_or (λ tail. clock book (Airframe tail)) (option_map (λ (x : Span). x.tail) o) (clock book (Component serial))) there in
        let on : s.on ≤ clock book (Airframe span.tail) = subst (λ (t : List ℕ). s.on ≤ clock book (Airframe t)) (sym (within_tail s span inside)) flown in
        omega arith
    at (Some m) e t =
        let on = landed_to s span m e inside in
        let own : m ≤ clock book (Component serial) = subst (λ (x : List ℕ). m ≤ clock book (Component x)) ((text_same span.serial serial).0 of) t.1 in
        let placed = is_placed book b serial in
        omega arith

pub any_landed : (test of : Span → Bool) (on bound : ℕ) (xs : List Span) → AllByRecursion (λ x. of x ≡ true → test x ≡ true → on ≤ bound) xs → list_any test (filter of xs) ≡ true → on ≤ bound
any_landed test of on bound [] h e = (cc)
any_landed test of on bound (x ∷ xs) h e = at (of x) refl e (any_landed test of on bound xs h.1)
  where
    one : of x ≡ true → (c : Bool) → test x ≡ c → c || list_any test (filter of xs) ≡ true → (list_any test (filter of xs) ≡ true → on ≤ bound) → on ≤ bound
    one f true g e rest = h.0 f g
    one f false g e rest = rest e

    at : (c : Bool) → of x ≡ c → list_any test (cond c (x ∷ filter of xs) (filter of xs)) ≡ true → (list_any test (filter of xs) ≡ true → on ≤ bound) → on ≤ bound
    at true f e rest = one f (test x) refl e rest
    at false f e rest = rest e

pub all_both : {X : Type 0} (P Q R : X → Type 0) → ((x : X) → P x → Q x → R x) → (xs : List X) → AllByRecursion P xs → AllByRecursion Q xs → AllByRecursion R xs
all_both P Q R each [] h k = tt
all_both P Q R each (x ∷ xs) h k = (each x h.0 k.0, all_both P Q R each xs h.1 k.1)

-- a sector of the book that an item is credited with has landed by the clock of the item's place
pub credited_landed : (book : List Entry) (item : Item) (s : Sector) → IsBook book → s.on ≤ clock book (Airframe s.tail) → is_credited book item s ≡ true → s.on ≤ clock_of_place book item
credited_landed book (Airframe tail) s b flown h = subst (λ (t : List ℕ). s.on ≤ clock book (Airframe t)) ((text_same s.tail tail).0 h) flown
credited_landed book (Component serial) s b flown h =
    any_landed (is_within s) (λ (x : Span). same_text x.serial serial) s.on (clock_of_place book (Component serial)) (spans book)
    (all_both (IsTimed book) (λ (x : Span). same_text x.serial serial && is_none x.to ≡ true → fitted book serial ≡ Some x) (λ (x : Span). same_text x.serial serial ≡ true → is_within s x ≡ true → s.on ≤ clock_of_place book (Component serial))
    (λ x timed only of inside. span_landed book serial s x b flown timed only of inside) (spans book) (spans_timed book) (open_is_fitted book serial b)) h

le_true : (a b : ℕ) → a ≤ b → nat_le a b ≡ true
le_true a b h = grind (arith, nat_tests)

-- by a moment that is not before the clock of its place, all sectors of an item have landed
all_landed : (m : ℕ) (test : Sector → Bool) (xs : List Sector) → AllByRecursion (λ (s : Sector). test s ≡ true → s.on ≤ m) xs → filter (has_landed_by (Some m)) (filter test xs) ≡ filter (has_landed_by None) (filter test xs)
all_landed m test [] h = refl
all_landed m test (s ∷ xs) h = at (test s) refl (all_landed m test xs h.1)
  where
    at : (c : Bool) → test s ≡ c → filter (has_landed_by (Some m)) (filter test xs) ≡ filter (has_landed_by None) (filter test xs)
        → filter (has_landed_by (Some m)) (cond c (s ∷ filter test xs) (filter test xs)) ≡ filter (has_landed_by None) (cond c (s ∷ filter test xs) (filter test xs))
    at true e rest = ap (λ c. cond c (s ∷ filter (has_landed_by (Some m)) (filter test xs)) (filter (has_landed_by (Some m)) (filter test xs))) (le_true s.on m (h.0 e)) ∙ ap (λ l. s ∷ l) rest
    at false e rest = rest

all_of : {X : Type 0} (P Q : X → Type 0) → ((x : X) → P x → Q x) → (xs : List X) → AllByRecursion P xs → AllByRecursion Q xs
all_of P Q each [] h = tt
all_of P Q each (x ∷ xs) h = (each x h.0, all_of P Q each xs h.1)

-- the life of an item at a moment that is not before the clock of its place is its life now
pub life_reached : (book : List Entry) (item : Item) (m : ℕ) → IsBook book → clock_of_place book item ≤ m → life_at book item m ≡ life_now book item
life_reached book item m b by =
    ap (λ l. option_map (use_after l) (opening_of book item))
    (all_landed m (is_credited book item) (register sector_of book)
    (all_of (IsFlownBy (λ t. clock book (Airframe t))) (λ (s : Sector). is_credited book item s ≡ true → s.on ≤ m)
    (λ s flown h. let landed = credited_landed book item s b flown.1 h in omega arith) (register sector_of book) (sectors_flown book b.shaped)))

-- ── a new release ──

nowhere : (o : Option Span) → is_some o ≡ false → o ≡ None
nowhere None h = refl
nowhere (Some x) h = (cc)

-- a new release is not before the clock of the place of an item that is there
place_before : (book : List Entry) (place : Place) (item : Item) (m : ℕ) → is_at book place item ≡ true → fitted_in_shop book place ≡ false → clock book (item_at place) ≤ m → clock_of_place book item ≤ m
place_before book (places.Aircraft tail) item m h free by = let e = at_aircraft book tail item h in omega arith
place_before book (places.Shop serial kind) (Airframe tail) m h free by = (cc)
place_before book (places.Shop serial kind) (Component s) m h free by =
    let same = (text_same s serial).0 h in
    subst (λ (x : List ℕ). clock_of_place book (Component x) ≤ m) (sym same)
    (let own : clock_of_place book (Component serial) ≡ clock book (Component serial) = ap (λ (o : Option Span). option_map_or (λ tail. clock book (Airframe tail)) (option_map (λ (x : Span). x.tail) o) (clock book (Component serial))) (nowhere (fitted book serial) free) in omega arith)

-- the life of an item at the moment of a new release that certifies a task of it is its life now
pub life_at_release : (book : List Entry) (doc : List ℕ) (r : Release) (lines : List Line) (item : Item) (id : List ℕ) → IsBook book → judge book (record { doc = doc; act = Released r lines }) ≡ New → list_any (is_done item id) lines ≡ true
    → life_at book item r.moment ≡ life_now book item
life_at_release book doc r lines item id b new h =
    life_reached book item r.moment b
    (place_before book r.place item r.moment (done_there book doc r lines item id new h).0 (new-in_shop book doc r lines new)
    (not_passed r.moment (clock book (item_at r.place)) (new-timely book (record { doc = doc; act = Released r lines }) new)))

take_all : {X : Type 0} (xs : List X) → take (length xs) xs ≡ xs
take_all [] = refl
take_all (x ∷ xs) = ap (λ l. x ∷ l) (take_all xs)

whole : (book : List Entry) (e : Entry) → take (length book + 1) (book ++ e ∷ []) ≡ book ++ e ∷ []
whole book e = ap (λ n. take n (book ++ e ∷ [])) (sym (length-append book (e ∷ []))) ∙ take_all (book ++ e ∷ [])

-- a release loads no programme
in_force_kept : (book : List Entry) (doc : List ℕ) (r : Release) (lines : List Line) (kind : List ℕ) → tasks_in_force (book ++ record { doc = doc; act = Released r lines } ∷ []) kind ≡ tasks_in_force book kind
in_force_kept book doc r lines kind = ap last_of (filter_map-append (λ (x : Entry). tasks_loaded kind x.act) book (record { doc = doc; act = Released r lines } ∷ []) ∙ append-nil (register (tasks_loaded kind) book))

by_kind : (book : List Entry) (id : List ℕ) (o : Option (List ℕ)) → option_and_then (λ kind. task_in_force book kind id) o ≡ option_and_then (find (λ (t : Task). same_text t.id id)) (option_and_then (tasks_in_force book) o)
by_kind book id None = refl
by_kind book id (Some kind) = refl

kept_by_kind : (book : List Entry) (doc : List ℕ) (r : Release) (lines : List Line) (id : List ℕ) (o : Option (List ℕ)) → option_and_then (λ kind. task_in_force (book ++ record { doc = doc; act = Released r lines } ∷ []) kind id) o ≡ option_and_then (λ kind. task_in_force book kind id) o
kept_by_kind book doc r lines id None = refl
kept_by_kind book doc r lines id (Some kind) = ap (option_and_then (find (λ (t : Task). same_text t.id id))) (in_force_kept book doc r lines kind)

-- the task that a new release certifies is that in force at its place
pub task_now : (book : List Entry) (doc : List ℕ) (r : Release) (lines : List Line) (id : List ℕ) → judge book (record { doc = doc; act = Released r lines }) ≡ New
    → task_then (book ++ record { doc = doc; act = Released r lines } ∷ []) (length book + 1) r id ≡ task_at book r.place id
task_now book doc r lines id new =
    let e : Entry = record { doc = doc; act = Released r lines } in
    ap (λ es. option_and_then (λ kind. task_in_force es kind id) (kind_at (book ++ e ∷ []) r.place)) (whole book e)
    ∙ ap (option_and_then (λ kind. task_in_force (book ++ e ∷ []) kind id)) (kind_kept book (e ∷ []) r.place (kind_known book doc r lines new))
    ∙ kept_by_kind book doc r lines id (kind_at book r.place) ∙ by_kind book id (kind_at book r.place)

-- ── one line for each task of an item ──

pub same_item_self : (item : Item) → same_item item item ≡ true
same_item_self (Airframe tail) = (text_same tail tail).1 refl
same_item_self (Component serial) = (text_same serial serial).1 refl

done_line : (item : Item) (id : List ℕ) (line : Line) → is_done item id line ≡ true → line ≡ Done item id
done_line item id (Done done task) h =
    let e = both (same_item done item) (same_text task id) h in
    ap (λ i. Done i task) (item_same done item e.0) ∙ ap (λ (t : List ℕ). Done item t) ((text_same task id).0 e.1)
done_line item id (Rectified doc) h = (cc)

same_done : (item : Item) (id : List ℕ) → same_line (Done item id) (Done item id) ≡ true
same_done item id = ap (λ c. c && same_text id id) (same_item_self item) ∙ (text_same id id).1 refl

-- lines that certify the task are equal, so where none equals the first no other certifies it
no_second : (item : Item) (id : List ℕ) (lines : List Line) → list_any (same_line (Done item id)) lines ≡ false → filter (is_done item id) lines ≡ []
no_second item id [] h = refl
no_second item id (line ∷ lines) h = at (is_done item id line) refl h (no_second item id lines)
  where
    tail : (p q : Bool) → p || q ≡ false → (p ≡ false) × (q ≡ false)
    tail true q h = (cc)
    tail false q h = (refl, h)

    at : (c : Bool) → is_done item id line ≡ c → same_line (Done item id) line || list_any (same_line (Done item id)) lines ≡ false → (list_any (same_line (Done item id)) lines ≡ false → filter (is_done item id) lines ≡ [])
        → cond c (line ∷ filter (is_done item id) lines) (filter (is_done item id) lines) ≡ []
    at true e h rest =
        let none = (tail (same_line (Done item id) line) (list_any (same_line (Done item id)) lines) h).0 in
        let yes : same_line (Done item id) line ≡ true = ap (same_line (Done item id)) (done_line item id line e) ∙ same_done item id in (cc)
    at false e h rest = rest (tail (same_line (Done item id) line) (list_any (same_line (Done item id)) lines) h).1

not_true : (b : Bool) → not b ≡ true → b ≡ false
not_true true h = (cc)
not_true false h = refl

-- of distinct lines at most one certifies the task
pub one_line : {X : Type 0} (x : X) (item : Item) (id : List ℕ) (lines : List Line) → are_distinct same_line lines ≡ true → map (λ (l : Line). x) (filter (is_done item id) lines) ≡ cond (list_any (is_done item id) lines) (x ∷ []) []
one_line x item id [] h = refl
one_line x item id (line ∷ lines) h =
    let e = both (not (list_any (same_line line) lines)) (are_distinct same_line lines) h in
    at (is_done item id line) refl (not_true (list_any (same_line line) lines) e.0) (one_line x item id lines e.1)
  where
    at : (c : Bool) → is_done item id line ≡ c → list_any (same_line line) lines ≡ false → map (λ (l : Line). x) (filter (is_done item id) lines) ≡ cond (list_any (is_done item id) lines) (x ∷ []) []
        → map (λ (l : Line). x) (cond c (line ∷ filter (is_done item id) lines) (filter (is_done item id) lines)) ≡ cond (c || list_any (is_done item id) lines) (x ∷ []) []
    at true f n rest = ap (λ l. x ∷ map (λ (l : Line). x) l) (no_second item id lines (subst (λ (l : Line). list_any (same_line l) lines ≡ false) (done_line item id line f) n))
    at false f n rest = rest

-- the base of a task that a new release certifies: what the item has reached now, or in each dimension what was due where that is less
pub released-base : (book : List Entry) (doc : List ℕ) (r : Release) (lines : List Line) (item : Item) (id : List ℕ) → IsBook book → judge book (record { doc = doc; act = Released r lines }) ≡ New → act_shape (Released r lines) ≡ true
    → base (book ++ record { doc = doc; act = Released r lines } ∷ []) item id
    ≡ (cond (list_any (is_done item id) lines) (Some (base_done (use_or_none (life_now book item)) (r.moment / 1440) (due_at book r.place item id))) (base book item id))
released-base book doc r lines item id b new shape =
    base-more book doc (Released r lines) item id b new shape refl
    ∙ ap (base_from after item id (base book item id)) (one_line (DoneIn (length book + 1) r) item id lines (new-distinct book doc r lines new))
    ∙ at (list_any (is_done item id) lines) refl
  where
    after : List Entry
    after = book ++ record { doc = doc; act = Released r lines } ∷ []

    at : (c : Bool) → list_any (is_done item id) lines ≡ c → base_from (book ++ record { doc = doc; act = Released r lines } ∷ []) item id (base book item id) (cond c (DoneIn (length book + 1) r ∷ []) [])
        ≡ (cond c (Some (base_done (use_or_none (life_now book item)) (r.moment / 1440) (due_at book r.place item id))) (base book item id))
    at true h =
        let e : Entry = record { doc = doc; act = Released r lines } in
        let there = done_there book doc r lines item id new h in
        ap (λ o. Some (base_done (use_or_none o) (r.moment / 1440) (option_and_then (due_after (base book item id) (birth (book ++ e ∷ []) item)) (task_then (book ++ e ∷ []) (length book + 1) r id))))
        (life_more_none book doc (Released r lines) item r.moment b new shape there.1 refl ∙ life_at_release book doc r lines item id b new h)
        ∙ ap (λ n. Some (base_done (use_or_none (life_now book item)) (r.moment / 1440) (option_and_then (due_after (base book item id) n) (task_then (book ++ e ∷ []) (length book + 1) r id)))) (birth_kept book (e ∷ []) item there.1)
        ∙ ap (λ o. Some (base_done (use_or_none (life_now book item)) (r.moment / 1440) (option_and_then (due_after (base book item id) (birth book item)) o))) (task_now book doc r lines id new)
    at false h = refl

-- ── the other commands ──

-- an entry that accomplishes nothing of a task of an item, and gives it no sector late, leaves its base
pub unaccomplished-base : (book : List Entry) (doc : List ℕ) (act : Act) (item : Item) (id : List ℕ) → IsBook book → judge book (record { doc = doc; act = act }) ≡ New → act_shape act ≡ true → sectors_late book item act ≡ []
    → accomplished_by (length book + 1) item id act ≡ [] → base (book ++ record { doc = doc; act = act } ∷ []) item id ≡ base book item id
unaccomplished-base book doc act item id b new shape late none =
    base-more book doc act item id b new shape late ∙ ap (base_from (book ++ record { doc = doc; act = act } ∷ []) item id (base book item id)) none

-- an opening states the base of its task of its item, and leaves the others
pub opened-base : (book : List Entry) (doc : List ℕ) (o : Opening) (item : Item) (id : List ℕ) → IsBook book → judge book (record { doc = doc; act = Opened o }) ≡ New → act_shape (Opened o) ≡ true
    → base (book ++ record { doc = doc; act = Opened o } ∷ []) item id
    ≡ (cond (same_item o.item item && same_text o.task id) (Some (record { minutes = o.use_then.minutes; cycles = o.use_then.cycles; day = o.day })) (base book item id))
opened-base book doc o item id b new shape =
    base-more book doc (Opened o) item id b new shape refl ∙ at (same_item o.item item) (same_text o.task id)
  where
    at : (p q : Bool) → base_from (book ++ record { doc = doc; act = Opened o } ∷ []) item id (base book item id) (cond p (cond q (Stated o ∷ []) []) [])
        ≡ (cond (p && q) (Some (record { minutes = o.use_then.minutes; cycles = o.use_then.cycles; day = o.day })) (base book item id))
    at true true = refl
    at true false = refl
    at false q = refl
