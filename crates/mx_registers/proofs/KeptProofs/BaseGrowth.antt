-- The base of a task of an item with one entry more.
use Rattle.std.proofs.Common.{arith, refl, ap, ◌∙◌, ◌≡◌, ℕ, ◌+◌, ◌≤◌, ◌<◌, ◌/◌, length, List, [], ◌∷◌, ◌++◌, Bool, true, false, cond, Option, Some, None, take}
use Rattle.std.specs.Prelude.{nat_le, filter, is_some}
use Rattle.std.specs.List.{AllByRecursion}
use Rattle.std.specs.Option.{option_map, option_map_or, option_or, option_and_then}
use Rattle.std.proofs.lemmas.Bool.Decides.{nat_tests}
use Rattle.std.proofs.lemmas.List.{take-append-le}
use Rattle.std.proofs.lemmas.List.Sums.{fold-append}
use Rattle.mx_base.specs.declared.amounts.Base.{Base}
use Rattle.mx_base.specs.declared.amounts.Use.{Use}
use Rattle.mx_book.specs.commands.Act.{Act, Entry, Flown}
use Rattle.mx_book.specs.commands.Shape.{act_shape, sector_shape}
use Rattle.mx_book.specs.declared.commands.aircraft.Aircraft.{Aircraft}
use Rattle.mx_book.specs.declared.commands.component.Component.{Component as ComponentAdded}
use Rattle.mx_book.specs.declared.commands.item.Item.{Item}
use Rattle.mx_book.specs.declared.commands.item.Item.TheVariants.{Airframe, Component}
use Rattle.mx_book.specs.declared.commands.release.Place.TheVariants as places
use Rattle.mx_book.specs.declared.commands.release.Release.{Release}
use Rattle.mx_book.specs.declared.commands.sector.Sector.{Sector}
use Rattle.mx_book.specs.due.Due.{due_after, base_done}
use Rattle.mx_book.specs.declared.verdict.Verdict.TheVariants.{New}
use Rattle.mx_book.specs.Register.{birth}
use Rattle.mx_book.specs.Book.{IsBook}
use Rattle.mx_book.specs.Judge.{judge, is_at}
use Rattle.mx_book.specs.Life.{clock, credited, is_credited, has_landed_by, use_after, life_at, opening_of, use_or_none}
use Rattle.mx_book.specs.Programme.{kind_at, task_in_force}
use Rattle.mx_book.specs.Base.{Accomplishment, Stated, DoneIn, accomplished_by, accomplishments, base, base_of, base_from, task_then}
use Rattle.mx_registers.specs.kept.Changes.{clock_of_place, sectors_given, sectors_late}
use Rattle.mx_registers.proofs.KeptProofs.CreditLemmas.{lands_later, credited_there}
use Rattle.mx_registers.proofs.KeptProofs.KnownLemmas.{aircraft_kept, component_kept}
use Rattle.mx_registers.proofs.KeptProofs.LifeGrowth.{life-more, opening_known, use_after_none}
use Rattle.mx_registers.proofs.KeptProofs.PlaceClocks.{at_aircraft}
use Rattle.mx_registers.proofs.KeptProofs.DoneLemmas.{IsKept, accomplishments-more, all_kept, kind_kept}
use Rattle.mx_registers.specs.Names.{has_item}

-- ── a life that was reached stays ──

past : (on m : ℕ) → m < on → nat_le on m ≡ false
past on m h = grind (arith, nat_tests)

-- sectors of which none had landed by a moment had landed by no earlier one
none_earlier : (b : Bool) (s : Sector) (m by : ℕ) → m ≤ by → filter (has_landed_by (Some by)) (cond b (s ∷ []) []) ≡ [] → filter (has_landed_by (Some m)) (cond b (s ∷ []) []) ≡ []
none_earlier false s m by le h = refl
none_earlier true s m by le h = at (nat_le s.on by) refl h
  where
    at : (c : Bool) → nat_le s.on by ≡ c → cond c (s ∷ []) [] ≡ [] → cond (nat_le s.on m) (s ∷ []) [] ≡ []
    at true e n = (cc)
    at false e n = let later : by < s.on = grind (arith, nat_tests) in ap (λ c. cond c (s ∷ []) []) (past s.on m (omega arith))

-- where an entry gives an item no sector late, none that it gives had landed by a moment by the clock of the item's place
none_by : (book : List Entry) (act : Act) (item : Item) (m : ℕ) → sectors_late book item act ≡ [] → m ≤ clock_of_place book item
    → filter (has_landed_by (Some m)) (sectors_given book item act) ≡ []
none_by book (Flown s) item m late by = none_earlier (is_credited book item s) s m (clock_of_place book item) by late
none_by book _ item m late by = refl

-- a sector that takes off by the clock of its airframe is given to no item late
pub timely_none_late : (book : List Entry) (s : Sector) (item : Item) → IsBook book → sector_shape s ≡ true → clock book (Airframe s.tail) ≤ s.off → sectors_late book item (Flown s) ≡ []
timely_none_late book s item b shape timely =
    ap (λ c. filter (has_landed_by (Some (clock_of_place book item))) (cond c (s ∷ []) [])) there ∙ at (is_at book (places.Aircraft s.tail) item) refl
  where
    there : is_credited book item s ≡ is_at book (places.Aircraft s.tail) item
    there = credited_there book item s b (lands_later s shape) timely

    at : (c : Bool) → is_at book (places.Aircraft s.tail) item ≡ c → filter (has_landed_by (Some (clock_of_place book item))) (cond c (s ∷ []) []) ≡ []
    at true e =
        let place = at_aircraft book s.tail item e in
        let lands = lands_later s shape in
        ap (λ c. cond c (s ∷ []) []) (past s.on (clock_of_place book item) (omega arith))
    at false e = refl

known_or : (o p : Option Use) → is_some o ≡ true → option_or (option_map (use_after []) o) p ≡ o
known_or None p h = (cc)
known_or (Some u) p h = ap (λ (v : Use). Some v) (use_after_none u)

some_map : {X Y : Type 0} (f : X → Y) (o : Option X) → is_some (option_map f o) ≡ is_some o
some_map f None = refl
some_map f (Some x) = refl

-- the life of an item up to a moment by the clock of its place stays what it is
pub life_kept : (book : List Entry) (doc : List ℕ) (act : Act) (item : Item) (m : ℕ) → IsBook book → judge book (record { doc = doc; act = act }) ≡ New → act_shape act ≡ true → has_item book item ≡ true → sectors_late book item act ≡ [] → m ≤ clock_of_place book item
    → life_at (book ++ record { doc = doc; act = act } ∷ []) item m ≡ life_at book item m
life_kept book doc act item m b new shape known late by =
    life-more book doc act item (Some m) b new shape
    ∙ ap (λ l. option_or (option_map (use_after l) (life_at book item m)) (opening_of (record { doc = doc; act = act } ∷ []) item)) (none_by book act item m late by)
    ∙ known_or (life_at book item m) (opening_of (record { doc = doc; act = act } ∷ []) item) (some_map (use_after (filter (has_landed_by (Some m)) (credited book item))) (opening_of book item) ∙ opening_known book item ∙ known)

-- the life of an item up to a moment stays what it is where an entry gives it no sector
pub life_more_none : (book : List Entry) (doc : List ℕ) (act : Act) (item : Item) (m : ℕ) → IsBook book → judge book (record { doc = doc; act = act }) ≡ New → act_shape act ≡ true → has_item book item ≡ true → sectors_given book item act ≡ []
    → life_at (book ++ record { doc = doc; act = act } ∷ []) item m ≡ life_at book item m
life_more_none book doc act item m b new shape known none =
    life-more book doc act item (Some m) b new shape
    ∙ ap (λ l. option_or (option_map (use_after (filter (has_landed_by (Some m)) l)) (life_at book item m)) (opening_of (record { doc = doc; act = act } ∷ []) item)) none
    ∙ known_or (life_at book item m) (opening_of (record { doc = doc; act = act } ∷ []) item) (some_map (use_after (filter (has_landed_by (Some m)) (credited book item))) (opening_of book item) ∙ opening_known book item ∙ known)

-- ── a base stays ──

pub birth_kept : (book more : List Entry) (item : Item) → has_item book item ≡ true → birth (book ++ more) item ≡ birth book item
birth_kept book more (Airframe tail) h = ap (λ (o : Option Aircraft). option_map_or (λ a. a.birth) o 0) (aircraft_kept book more tail h)
birth_kept book more (Component serial) h = ap (λ (o : Option ComponentAdded). option_map_or (λ c. c.birth) o 0) (component_kept book more serial h)

pub task_kept : (book more : List Entry) (k : ℕ) (r : Release) (id : List ℕ) → k ≤ length book → is_some (kind_at book r.place) ≡ true → task_then (book ++ more) k r id ≡ task_then book k r id
task_kept book more k r id le known =
    ap (option_and_then (λ kind. task_in_force (take k (book ++ more)) kind id)) (kind_kept book more r.place known)
    ∙ ap (λ es. option_and_then (λ kind. task_in_force es kind id) (kind_at book r.place)) (take-append-le k book more le)

-- the base of an accomplishment that the book keeps stays what it is
pub base_kept : (book : List Entry) (doc : List ℕ) (act : Act) (item : Item) (id : List ℕ) → IsBook book → judge book (record { doc = doc; act = act }) ≡ New → act_shape act ≡ true → sectors_late book item act ≡ []
    → (a : Accomplishment) → IsKept book item a → (before : Option Base) → base_of (book ++ record { doc = doc; act = act } ∷ []) item id before a ≡ base_of book item id before a
base_kept book doc act item id b new shape late (Stated o) h before = refl
base_kept book doc act item id b new shape late (DoneIn k r) h before =
    let more : List Entry = record { doc = doc; act = act } ∷ [] in
    ap (λ o. base_done (use_or_none o) (r.moment / 1440) (option_and_then (due_after before (birth (book ++ more) item)) (task_then (book ++ more) k r id))) (life_kept book doc act item r.moment b new shape h.item_known late h.timely)
    ∙ ap (λ n. base_done (use_or_none (life_at book item r.moment)) (r.moment / 1440) (option_and_then (due_after before n) (task_then (book ++ more) k r id))) (birth_kept book more item h.item_known)
    ∙ ap (λ o. base_done (use_or_none (life_at book item r.moment)) (r.moment / 1440) (option_and_then (due_after before (birth book item)) o)) (task_kept book more k r id h.entered h.kind_known)

bases_kept : (book : List Entry) (doc : List ℕ) (act : Act) (item : Item) (id : List ℕ) → IsBook book → judge book (record { doc = doc; act = act }) ≡ New → act_shape act ≡ true → sectors_late book item act ≡ []
    → (done : List Accomplishment) → AllByRecursion (IsKept book item) done → (before : Option Base) → base_from (book ++ record { doc = doc; act = act } ∷ []) item id before done ≡ base_from book item id before done
bases_kept book doc act item id b new shape late [] h before = refl
bases_kept book doc act item id b new shape late (a ∷ done) h before =
    ap (λ x. base_from (book ++ record { doc = doc; act = act } ∷ []) item id (Some x) done) (base_kept book doc act item id b new shape late a h.0 before)
    ∙ bases_kept book doc act item id b new shape late done h.1 (Some (base_of book item id before a))

-- the base with a new entry that gives the item no sector late: what the entry accomplishes behind the base before it
pub base-more : (book : List Entry) (doc : List ℕ) (act : Act) (item : Item) (id : List ℕ) → IsBook book → judge book (record { doc = doc; act = act }) ≡ New → act_shape act ≡ true → sectors_late book item act ≡ []
    → base (book ++ record { doc = doc; act = act } ∷ []) item id ≡ base_from (book ++ record { doc = doc; act = act } ∷ []) item id (base book item id) (accomplished_by (length book + 1) item id act)
base-more book doc act item id b new shape late =
    let after : List Entry = book ++ record { doc = doc; act = act } ∷ [] in
    ap (base_from after item id None) (accomplishments-more book (record { doc = doc; act = act }) item id)
    ∙ fold-append (λ x a. Some (base_of after item id x a)) None (accomplishments book item id) (accomplished_by (length book + 1) item id act)
    ∙ ap (λ x. base_from after item id x (accomplished_by (length book + 1) item id act)) (bases_kept book doc act item id b new shape late (accomplishments book item id) (all_kept book b item id) None)
