-- The accomplishments fit their columns, and their values and bases the life of an item and the calendar.
use Rattle.std.proofs.Common.{arith, refl, subst, ap, ◌∙◌, ◌≡◌, ℕ, ◌+◌, ◌/◌, ◌^◌, ◌≤◌, ◌<◌, zero, suc, length, List, [], ◌∷◌, ◌++◌, Bool, true, false, cond, ◌&&◌, Option, Some, None}
use Rattle.std.specs.Prelude.{All, IfSome, find, fold, nat_le, take}
use Rattle.std.specs.List.{flat_map, cons_option, list_all, AllByRecursion}
use Rattle.std.specs.Option.{option_and_then, option_map, option_map_or}
use Rattle.std.proofs.lemmas.Bool.Decides.{nat_tests}
use Rattle.std.proofs.lemmas.List.Elements.{All-from_recursion}
use Rattle.mx_base.specs.Calendar.{last_day, last_moment}
use Rattle.mx_base.specs.declared.amounts.Base.{Base}
use Rattle.mx_base.specs.declared.amounts.Limit.{Limit}
use Rattle.mx_base.specs.declared.rows.rows.DoneRow.{DoneRow}
use Rattle.mx_base.specs.rows.Rows.{FitsBaseValue, FitsDone, FitsLimit}
use Rattle.mx_book.specs.commands.Act.{Act, Entry, Added, Flown, Listed, Loaded, Opened, Released, aircraft_of, component_of, tasks_of}
use Rattle.mx_book.specs.commands.Programme.{limit_shape, task_shape}
use Rattle.mx_book.specs.commands.Same.{same_item, same_text}
use Rattle.mx_book.specs.commands.Shape.{act_shape, has_shape, opening_shape, positions_shape, use_shape}
use Rattle.mx_book.specs.declared.commands.aircraft.Aircraft.{Aircraft}
use Rattle.mx_book.specs.declared.commands.component.Component.{Component}
use Rattle.mx_book.specs.declared.commands.item.Item.{Item}
use Rattle.mx_book.specs.declared.commands.item.Item.TheVariants.{Airframe as OfAirframe, Component as OfComponent}
use Rattle.mx_book.specs.declared.commands.programme.Task.{Task}
use Rattle.mx_book.specs.declared.commands.release.Line.{Line}
use Rattle.mx_book.specs.declared.commands.release.Release.{Release}
use Rattle.mx_book.specs.declared.commands.sector.Sector.{Sector}
use Rattle.mx_book.specs.declared.verdict.Verdict.TheVariants.{New}
use Rattle.mx_book.specs.due.Due.{IsBase, counted_from, due_after, first_due}
use Rattle.mx_book.specs.Base.{Accomplishment, Stated, DoneIn, base_at, base_of, due_of, lesser_base, task_then, value_of}
use Rattle.mx_book.specs.Book.{IsBook}
use Rattle.mx_book.specs.Judge.{judge}
use Rattle.mx_book.specs.Programme.{is_done, kind_at, task_in_force, tasks_in_force, tasks_loaded}
use Rattle.mx_book.specs.Register.{aircraft, birth, component, register}
use Rattle.mx_book.proofs.CommandsProofs.ShapeLemmas.{both_true, tasks_shaped}
use Rattle.mx_book.proofs.DueProofs.DueLemmas.{limit_small, task_limits}
use Rattle.mx_book.proofs.JudgeLemmas.{IsBook-entered}
use Rattle.mx_book.proofs.LifeLemmas.{life_bounded}
use Rattle.mx_book.proofs.ListLemmas.{found_task}
use Rattle.mx_registers.specs.kept.Bases.{tasks_accomplished, tasks_by}
use Rattle.mx_registers.specs.kept.Fits.{FitRegisters}
use Rattle.mx_registers.specs.kept.Items.{items}
use Rattle.mx_registers.specs.late.Done.{IsWithinLife, Placed, done_chain, done_moved, done_rows, done_rows_at, done_rows_of, due_limit, limit_or_none, placed, placed_by, placed_from, placed_lines}
use Rattle.mx_registers.proofs.ReleaseLemmas.{lines_few_enough}
use Rattle.mx_registers.proofs.KeptProofs.BaseFits.{IsTask, book_tasks, day_low, lesser_low, once_fit}
use Rattle.mx_registers.proofs.KeptProofs.FitLemmas.{items_low, IsLow}
use Rattle.mx_registers.proofs.KeptProofs.KnownLemmas.{all_append}
use Rattle.mx_registers.proofs.LateProofs.DoneBecomes.{late_rows}
use Rattle.mx_registers.proofs.KeptProofs.SaidLemmas.{all_said, SaysFit, SayFit}

-- ── the day of birth ──

-- what an entry adds was built by a day of the calendar
born_by : (birth as_of : ℕ) (opening : Bool) → opening && nat_le birth (as_of / 1440) ≡ true → as_of ≤ last_moment → birth ≤ last_day
born_by birth as_of opening h low = let by = (both_true opening (nat_le birth (as_of / 1440)) h).1 in grind (arith, nat_tests)

aircraft_born : (book : List Entry) → list_all has_shape book ≡ true → SayFit book → AllByRecursion (λ (a : Aircraft). a.birth ≤ last_day) (register aircraft_of book)
aircraft_born [] shaped h = tt
aircraft_born (x ∷ book) shaped h =
    let parts = both_true (has_shape x) (list_all has_shape book) shaped in
    at x.act (both_true _ _ parts.0).0 h.0 (aircraft_born book parts.1 h.1)
  where
    at : (act : Act) → act_shape act ≡ true → SaysFit act → AllByRecursion (λ (a : Aircraft). a.birth ≤ last_day) (register aircraft_of book)
        → AllByRecursion (λ (a : Aircraft). a.birth ≤ last_day) (cons_option (aircraft_of act) (register aircraft_of book))
    at (Added a positions) shape said rest = (born_by a.birth a.as_of (use_shape a.opening) (both_true (opening_shape a.birth a.opening a.as_of) (positions_shape positions) shape).0 said, rest)
    at _ shape said rest = rest

component_born : (book : List Entry) → list_all has_shape book ≡ true → SayFit book → AllByRecursion (λ (c : Component). c.birth ≤ last_day) (register component_of book)
component_born [] shaped h = tt
component_born (x ∷ book) shaped h =
    let parts = both_true (has_shape x) (list_all has_shape book) shaped in
    at x.act (both_true _ _ parts.0).0 h.0 (component_born book parts.1 h.1)
  where
    at : (act : Act) → act_shape act ≡ true → SaysFit act → AllByRecursion (λ (c : Component). c.birth ≤ last_day) (register component_of book)
        → AllByRecursion (λ (c : Component). c.birth ≤ last_day) (cons_option (component_of act) (register component_of book))
    at (Listed c) shape said rest = (born_by c.birth c.as_of (use_shape c.opening) shape said, rest)
    at _ shape said rest = rest

found_of_all : {X : Type 0} (P : X → Type 0) (p : X → Bool) (xs : List X) → AllByRecursion P xs → IfSome (find p xs) P
found_of_all P p [] h = tt
found_of_all P p (x ∷ xs) h = at (p x) (found_of_all P p xs h.1)
  where
    at : (c : Bool) → IfSome (find p xs) P → IfSome (cond c (Some x) (find p xs)) P
    at true rest = h.0
    at false rest = rest

birth_low : (book : List Entry) (item : Item) → list_all has_shape book ≡ true → SayFit book → birth book item ≤ last_day
birth_low book (OfAirframe tail) shaped h = at (aircraft book tail) (found_of_all (λ (a : Aircraft). a.birth ≤ last_day) (λ a. same_text a.tail tail) (register aircraft_of book) (aircraft_born book shaped h))
  where
    at : (o : Option Aircraft) → IfSome o (λ a. a.birth ≤ last_day) → option_map_or (λ (a : Aircraft). a.birth) o 0 ≤ last_day
    at None h = omega arith
    at (Some a) h = h
birth_low book (OfComponent serial) shaped h = at (component book serial) (found_of_all (λ (c : Component). c.birth ≤ last_day) (λ c. same_text c.serial serial) (register component_of book) (component_born book shaped h))
  where
    at : (o : Option Component) → IfSome o (λ c. c.birth ≤ last_day) → option_map_or (λ (c : Component). c.birth) o 0 ≤ last_day
    at None h = omega arith
    at (Some c) h = h

-- ── the tasks in force ──

abbrev AreShaped : List Task → Type 0
AreShaped tasks = list_all task_shape tasks ≡ true

last_shaped : (kind : List ℕ) (before : Option (List Task)) (book : List Entry) → list_all has_shape book ≡ true → IfSome before AreShaped → IfSome (fold (λ (b : Option (List Task)) x. Some x) before (register (tasks_loaded kind) book)) AreShaped
last_shaped kind before [] shaped h = h
last_shaped kind before (x ∷ book) shaped h =
    let parts = both_true (has_shape x) (list_all has_shape book) shaped in
    at x.act (tasks_shaped x.doc x.act parts.0) (λ other own. last_shaped kind other book parts.1 own)
  where
    loaded : (c : Bool) (tasks : List Task) → AreShaped tasks → ((other : Option (List Task)) → IfSome other AreShaped → IfSome (fold (λ (b : Option (List Task)) y. Some y) other (register (tasks_loaded kind) book)) AreShaped) → IfSome (fold (λ (b : Option (List Task)) y. Some y) before (cons_option (cond c (Some tasks) None) (register (tasks_loaded kind) book))) AreShaped
    loaded true tasks own rest = rest (Some tasks) own
    loaded false tasks own rest = rest before h

    at : (act : Act) → list_all task_shape (tasks_of act) ≡ true → ((other : Option (List Task)) → IfSome other AreShaped → IfSome (fold (λ (b : Option (List Task)) y. Some y) other (register (tasks_loaded kind) book)) AreShaped) → IfSome (fold (λ (b : Option (List Task)) y. Some y) before (cons_option (tasks_loaded kind act) (register (tasks_loaded kind) book))) AreShaped
    at (Loaded p tasks) own rest = loaded (same_text p.kind kind) tasks own rest
    at _ own rest = rest before h

first_shaped : (k : ℕ) (book : List Entry) → list_all has_shape book ≡ true → list_all has_shape (take k book) ≡ true
first_shaped zero book shaped = refl
first_shaped (suc k) [] shaped = refl
first_shaped (suc k) (x ∷ book) shaped =
    let parts = both_true (has_shape x) (list_all has_shape book) shaped in
    ap (λ c. c && list_all has_shape (take k book)) parts.0 ∙ first_shaped k book parts.1

in_force_shaped : (book : List Entry) (kind id : List ℕ) → list_all has_shape book ≡ true → IfSome (task_in_force book kind id) (λ t. task_shape t ≡ true)
in_force_shaped book kind id shaped = at (tasks_in_force book kind) (last_shaped kind None book shaped tt)
  where
    at : (o : Option (List Task)) → IfSome o AreShaped → IfSome (option_and_then (find (λ (t : Task). same_text t.id id)) o) (λ t. task_shape t ≡ true)
    at None h = tt
    at (Some tasks) h = found_task (λ (t : Task). same_text t.id id) tasks (find (λ (t : Task). same_text t.id id) tasks) refl h

then_shaped : (book : List Entry) (k : ℕ) (r : Release) (id : List ℕ) → list_all has_shape book ≡ true → IfSome (task_then book k r id) (λ t. task_shape t ≡ true)
then_shaped book k r id shaped = at (kind_at book r.place)
  where
    at : (o : Option (List ℕ)) → IfSome (option_and_then (λ kind. task_in_force (take k book) kind id) o) (λ t. task_shape t ≡ true)
    at None = tt
    at (Some kind) = in_force_shaped (take k book) kind id (first_shaped k book shaped)

-- ── dues ──

counted : (from most : ℕ) (n : Option ℕ) → IfSome n (λ n. n ≤ most) → from + most < 2 ^ 32 → IfSome (option_map (λ n. from + n) n) (λ n. n < 2 ^ 32)
counted from most None h low = tt
counted from most (Some n) h low = omega arith

limit_fits : (base : Base) (l : Limit) → IsBase base → limit_shape l ≡ true → FitsLimit (counted_from base l)
limit_fits base l b shape =
    let small = limit_small l shape in
    record {
      minutes = counted base.minutes 6000000 l.minutes small.0 (omega (arith, b.minutes));
      cycles = counted base.cycles 1000000 l.cycles small.1 (omega (arith, b.cycles));
      days = counted base.day 36500 l.days small.2 (omega (arith, b.day));
    }

first_fits : (birth : ℕ) (t : Task) → birth ≤ last_day → task_shape t ≡ true → FitsLimit (first_due birth t)
first_fits birth t low shape = limit_fits (record { minutes = 0; cycles = 0; day = birth }) t.first (record { minutes = omega arith; cycles = omega arith; day = low }) (task_limits t shape).0

none_fits : FitsLimit (record { minutes = None; cycles = None; days = None })
none_fits = record { minutes = tt; cycles = tt; days = tt }

after_fits : (before : Option Base) (birth : ℕ) (t : Task) → IfSome before IsBase → birth ≤ last_day → task_shape t ≡ true → FitsLimit (limit_or_none (due_after before birth t))
after_fits None birth t b low shape = first_fits birth t low shape
after_fits (Some base) birth t b low shape = at t.retire t.repeat (task_limits t shape).1
  where
    at : (c : Bool) (repeat : Option Limit) → IfSome repeat (λ l. limit_shape l ≡ true) → FitsLimit (limit_or_none (cond c (Some (first_due birth t)) (option_map (counted_from base) repeat)))
    at true repeat h = first_fits birth t low shape
    at false None h = none_fits
    at false (Some l) h = limit_fits base l b h

due_fits : (before : Option Base) (birth : ℕ) (o : Option Task) → IfSome before IsBase → birth ≤ last_day → IfSome o (λ t. task_shape t ≡ true) → FitsLimit (limit_or_none (option_and_then (due_after before birth) o))
due_fits before birth None b low shape = none_fits
due_fits before birth (Some t) b low shape = after_fits before birth t b low shape

-- ── the rows of a task of an item ──

-- what an accomplishment says is within the life of an item and the calendar
abbrev IsWithin : Accomplishment → Type 0
IsWithin (Stated o) = IsBase (base_at o.use_then o.day)
IsWithin (DoneIn k r) = r.moment ≤ last_moment

-- its place fits columns
abbrev PlacedFits : Placed → Type 0
PlacedFits p = (p.seq < 2 ^ 32) × (p.line < 2 ^ 32) × IsWithin p.what

based_fits : (base : Base) → IsBase base → FitsBaseValue base
based_fits base b = record { minutes = omega (arith, b.minutes); cycles = omega (arith, b.cycles); day = b.day }

lesser_within : (value : Base) (due : Option Limit) → IsBase value → IsBase (lesser_base value due)
lesser_within value None b = b
lesser_within value (Some due) b = record {
  minutes = lesser_low value.minutes 1540000000 due.minutes b.minutes;
  cycles = lesser_low value.cycles 51000000 due.cycles b.cycles;
  day = lesser_low value.day last_day due.days b.day;
}

module _ (book : List Entry) (b : IsBook book) (h : SayFit book) (n : ℕ) (item : Item) (id : List ℕ) (number : n < 2 ^ 32) (task : IsTask id) where
  value_within : (a : Accomplishment) → IsWithin a → IsBase (value_of book item a)
  value_within (Stated o) w = w
  value_within (DoneIn k r) w =
      let life = life_bounded book item (Some r.moment) b.few b.shaped in record { minutes = life.minutes; cycles = life.cycles; day = day_low r.moment w }

  limit_due : (before : Option Base) (a : Accomplishment) → IfSome before IsBase → FitsLimit (due_limit book item id before a)
  limit_due before (Stated o) w = none_fits
  limit_due before (DoneIn k r) w = due_fits before (birth book item) (task_then book k r id) w (birth_low book item b.shaped h) (then_shaped book k r id b.shaped)

  base_within : (before : Option Base) (a : Accomplishment) → IsWithin a → IsBase (base_of book item id before a)
  base_within before a w = lesser_within (value_of book item a) (due_of book item id before a) (value_within a w)

  chain_fits : (before : Option Base) (ps : List Placed) → IfSome before IsBase → AllByRecursion PlacedFits ps → AllByRecursion (λ (row : DoneRow). FitsDone row × IsWithinLife row) (done_chain book n item id before ps)
  chain_fits before [] w fit = tt
  chain_fits before (p ∷ ps) w fit =
      let value = value_within p.what fit.0.2 in
      let base = base_within before p.what fit.0.2 in (
        (
          record { item = number; task = task; seq = fit.0.0; line = fit.0.1; value = based_fits (value_of book item p.what) value; due = limit_due before p.what w; base = based_fits (base_of book item id before p.what) base },
          record { value = value; base = base },
        ),
        chain_fits (Some (base_of book item id before p.what)) ps base fit.1,
      )

-- ── the accomplishments of a book, each in its place ──

module _ (item : Item) (id : List ℕ) where
  lines_fit : (k line : ℕ) (r : Release) (lines : List Line) → k < 2 ^ 32 → line + length lines < 2 ^ 32 → r.moment ≤ last_moment → AllByRecursion PlacedFits (placed_lines k line item id r lines)
  lines_fit k line r [] low few moment = tt
  lines_fit k line r (said ∷ lines) low few moment = at (is_done item id said) (lines_fit k (line + 1) r lines low (omega arith) moment)
    where
      at : (c : Bool) → AllByRecursion PlacedFits (placed_lines k (line + 1) item id r lines) → AllByRecursion PlacedFits (cond c (record { seq = k; line = line; what = DoneIn k r } ∷ []) [] ++ placed_lines k (line + 1) item id r lines)
      at true rest = ((low, omega arith, moment), rest)
      at false rest = rest

  by_fits : (k : ℕ) (doc : List ℕ) (act : Act) → k < 2 ^ 32 → has_shape (record { doc = doc; act = act }) ≡ true → SaysFit act → AllByRecursion PlacedFits (placed_by k item id act)
  by_fits k doc (Opened o) low shape said = at (same_item o.item item) (same_text o.task id)
    where
      stated : IsBase (base_at o.use_then o.day)
      stated =
          let use_low = (both_true (use_shape o.use_then) _ shape).0 in
          let parts = both_true (nat_le o.use_then.minutes 100000000) (nat_le o.use_then.cycles 1000000) use_low in
          record { minutes = grind (arith, nat_tests); cycles = grind (arith, nat_tests); day = said.3 }

      at : (c d : Bool) → AllByRecursion PlacedFits (cond c (cond d (record { seq = k; line = 0; what = Stated o } ∷ []) []) [])
      at true true = ((low, omega arith, stated), tt)
      at true false = tt
      at false d = tt
  by_fits k doc (Released r lines) low shape said = lines_fit k 1 r lines low (omega (arith, lines_few_enough doc (Released r lines) shape)) said.0
  by_fits k doc _ low shape said = tt

  from_fits : (k : ℕ) (later : List Entry) → k + length later < 2 ^ 32 → list_all has_shape later ≡ true → SayFit later → AllByRecursion PlacedFits (placed_from k item id later)
  from_fits k [] low shaped said = tt
  from_fits k (x ∷ later) low shaped said =
      let parts = both_true (has_shape x) (list_all has_shape later) shaped in
      all_append PlacedFits (placed_by k item id x.act) (placed_from (k + 1) item id later) (by_fits k x.doc x.act (omega arith) parts.0 said.0) (from_fits (k + 1) later (omega arith) parts.1 said.1)

-- ── the table ──

module _ (book : List Entry) (b : IsBook book) (h : SayFit book) where
  abbrev Holds : DoneRow → Type 0
  Holds row = FitsDone row × IsWithinLife row

  task_rows : (x : ℕ × Item) → IsLow x → (ids : List (List ℕ)) → AllByRecursion IsTask ids → AllByRecursion Holds (flat_map (done_rows_of book x.0 x.1) ids)
  task_rows x low [] k = tt
  task_rows x low (id ∷ ids) k =
      all_append Holds (done_rows_of book x.0 x.1 id) (flat_map (done_rows_of book x.0 x.1) ids)
      (chain_fits book b h x.0 x.1 id low k.0 None (placed book x.1 id) tt (from_fits x.1 id 1 book (omega (arith, b.few)) b.shaped h))
      (task_rows x low ids k.1)

  all_rows : (xs : List (ℕ × Item)) → AllByRecursion IsLow xs → AllByRecursion Holds (flat_map (done_rows_at book) xs)
  all_rows [] low = tt
  all_rows (x ∷ xs) low =
      all_append Holds (done_rows_at book x) (flat_map (done_rows_at book) xs)
      (task_rows x low.0 (tasks_accomplished book x.1) (once_fit (flat_map (λ (e : Entry). tasks_by x.1 e.act) book) (book_tasks x.1 book h))) (all_rows xs low.1)

first_of_both : (rows : List DoneRow) → AllByRecursion (λ (row : DoneRow). FitsDone row × IsWithinLife row) rows → AllByRecursion FitsDone rows × AllByRecursion IsWithinLife rows
first_of_both [] h = (tt, tt)
first_of_both (row ∷ rows) h = let rest = first_of_both rows h.1 in ((h.0.0, rest.0), (h.0.1, rest.1))

pub done_fit : (book : List Entry) → IsBook book → FitRegisters book → All FitsDone (done_rows book)
done_fit book b h = All-from_recursion FitsDone (done_rows book) (first_of_both (done_rows book) (all_rows book b (all_said book h) (items book) (items_low book b))).0

pub done_within : (book : List Entry) → IsBook book → FitRegisters book → All IsWithinLife (done_rows book)
done_within book b h = All-from_recursion IsWithinLife (done_rows book) (first_of_both (done_rows book) (all_rows book b (all_said book h) (items book) (items_low book b))).1

-- so they are with a new sector
pub credited_within : (book : List Entry) (doc : List ℕ) (s : Sector) → IsBook book → judge book (record { doc = doc; act = Flown s }) ≡ New → has_shape (record { doc = doc; act = Flown s }) ≡ true → FitRegisters (book ++ record { doc = doc; act = Flown s } ∷ [])
    → All IsWithinLife (done_moved book (Flown s) (done_rows book))
credited_within book doc s b new shape h =
    let e : Entry = record { doc = doc; act = Flown s } in
    subst (λ (rows : List DoneRow). All IsWithinLife rows) (late_rows book doc s b new (both_true _ _ shape).0) (done_within (book ++ e ∷ []) (IsBook-entered book e b shape new) h)
