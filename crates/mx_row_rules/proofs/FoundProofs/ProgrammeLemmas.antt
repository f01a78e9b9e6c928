-- The programme in force of a kind and its tasks, by rows.
use Rattle.std.proofs.Common.{arith, ◌≡◌, ℕ, zero, suc, ◌+◌, ◌<◌, ◌≤◌, ◌^◌, Bool, true, false, cond, ◌&&◌, ◌||◌, nat_eq, List, [], ◌∷◌, ◌++◌, map, filter, length, take, Option, Some, None, refl, sym, ap, ap₂, subst, ◌∙◌, append_assoc, add-one}
use Rattle.std.specs.Prelude.{find, is_some, nat_le, slice_get, IfSome}
use Rattle.std.specs.List.{cons_option, list_all, list_any, AllByRecursion}
use Rattle.std.specs.Option.{option_eq, option_map, option_map_or}
use Rattle.std.proofs.lemmas.Bool.Decides.{nat_tests}
use Rattle.mx_base.specs.declared.amounts.Use.{Use}
use Rattle.mx_book.specs.commands.Act.{Act, Entry, Loaded, tasks_of}
use Rattle.mx_book.specs.commands.Bounds.{within}
use Rattle.mx_book.specs.commands.Programme.{programme_shape, task_shape}
use Rattle.mx_book.specs.commands.Same.{same_text}
use Rattle.mx_book.specs.commands.Shape.{act_shape, doc_shape, has_shape}
use Rattle.mx_book.specs.declared.commands.aircraft.Aircraft.{Aircraft}
use Rattle.mx_book.specs.declared.commands.component.Component.{Component}
use Rattle.mx_book.specs.declared.commands.item.Item.{Item}
use Rattle.mx_book.specs.declared.commands.item.Item.TheVariants as items
use Rattle.mx_book.specs.declared.commands.programme.Programme.{Programme}
use Rattle.mx_book.specs.declared.commands.programme.Task.{Task}
use Rattle.mx_book.specs.declared.commands.programme_shape.TheConstants.{LAST_REVISION}
use Rattle.mx_book.specs.due.Due.{first_due}
use Rattle.mx_book.specs.due.Left.{left_of, is_used_up}
use Rattle.mx_book.specs.Asking.{task_of}
use Rattle.mx_book.specs.Book.{IsBook, entry_at}
use Rattle.mx_book.specs.Life.{life_now}
use Rattle.mx_book.specs.Programme.{is_at_end, is_done_in, is_ended_by, last_of, life_ended, next_revision, revision_loaded, tasks_in_force, tasks_loaded}
use Rattle.mx_book.specs.Register.{register, aircraft, birth as birth_of, component, found_of}
use Rattle.mx_book.proofs.JudgeLemmas.{both_true}
use Rattle.mx_registers.specs.Lines.{lines_from}
use Rattle.mx_registers.specs.Merge.{applies_said, task_lines, task_said}
use Rattle.mx_registers.specs.Registers.{gives_by, next, programme_row, programme_rows, programmes_by, task_row, task_rows}
use Rattle.mx_registers.proofs.TakeLemmas.{IsSaid, same_some}
use Rattle.mx_registers.proofs.TaskLemmas.{tasks_said}
use Rattle.mx_base.specs.declared.rows.rows.ProgrammeRow.{ProgrammeRow}
use Rattle.mx_base.specs.declared.rows.rows.TaskRow.{TaskRow}
use Rattle.mx_registers.proofs.KeptProofs.SpanGrowth.{same_sym}
use Rattle.mx_row_rules.specs.found.Given.{tasks}
use Rattle.mx_row_rules.specs.found.Programmes.{is_retired_in, programme_number, retires, revision_after, task_in}
use Rattle.mx_row_rules.proofs.FoundProofs.EntryLemmas.{entry_is_at, get_seam, given_by, rows_at, shape_at}
use Rattle.mx_row_rules.proofs.FoundProofs.LastLemmas.{all_last, last-map}
use Rattle.mx_row_rules.proofs.FoundProofs.RowLemmas.{tasks_law}

-- ── the rows of a kind ──

module _ (kind : List ℕ) where
  abbrev is_of_kind : ProgrammeRow → Bool
  is_of_kind row = same_text row.kind kind

  -- the tasks that the entry with a number loads
  abbrev pub tasks_at : List Entry → ℕ → List Task
  tasks_at book n = option_map_or (λ e. tasks_of e.act) (entry_at book n) []

  -- what is made of the rows of a kind is what its entries say of it
  map_if : {X : Type 0} (f : ProgrammeRow → X) (b : Bool) (row : ProgrammeRow) (rows : List ProgrammeRow) (x : X) (xs : List X) → f row ≡ x → map f rows ≡ xs → map f (cond b (row ∷ rows) rows) ≡ cons_option (cond b (Some x) None) xs
  map_if f true row rows x xs e h = ap₂ ◌∷◌ e h
  map_if f false row rows x xs e h = h

  revisions_from : (before later : List Entry) → map (λ (row : ProgrammeRow). row.revision) (filter is_of_kind (gives_by programmes_by before later)) ≡ register (revision_loaded kind) later
  revisions_from before [] = refl
  revisions_from before (e ∷ later) = at e.act (revisions_from (before ++ e ∷ []) later)
    where
      at : (act : Act) → map (λ (row : ProgrammeRow). row.revision) (filter is_of_kind (gives_by programmes_by (before ++ e ∷ []) later)) ≡ register (revision_loaded kind) later
          → map (λ (row : ProgrammeRow). row.revision) (filter is_of_kind (programmes_by before act ++ gives_by programmes_by (before ++ e ∷ []) later)) ≡ cons_option (revision_loaded kind act) (register (revision_loaded kind) later)
      at (Loaded p ts) h = map_if (λ (row : ProgrammeRow). row.revision) (same_text p.kind kind) (programme_row (next before) p) _ p.revision _ refl h
      at _ h = h

  tasks_from : (before later : List Entry) → map (λ (row : ProgrammeRow). tasks_at (before ++ later) row.seq) (filter is_of_kind (gives_by programmes_by before later)) ≡ register (tasks_loaded kind) later
  tasks_from before [] = refl
  tasks_from before (e ∷ later) =
      at e.act refl (subst (λ (w : List Entry). map (λ (row : ProgrammeRow). tasks_at w row.seq) (filter is_of_kind (gives_by programmes_by (before ++ e ∷ []) later)) ≡ register (tasks_loaded kind) later) (append_assoc before (e ∷ []) later) (tasks_from (before ++ e ∷ []) later))
    where
      here : entry_at (before ++ e ∷ later) (length before + 1) ≡ Some e
      here = ap (entry_at (before ++ e ∷ later)) (add-one (length before)) ∙ get_seam before later e

      at : (act : Act) → e.act ≡ act → map (λ (row : ProgrammeRow). tasks_at (before ++ e ∷ later) row.seq) (filter is_of_kind (gives_by programmes_by (before ++ e ∷ []) later)) ≡ register (tasks_loaded kind) later
          → map (λ (row : ProgrammeRow). tasks_at (before ++ e ∷ later) row.seq) (filter is_of_kind (programmes_by before act ++ gives_by programmes_by (before ++ e ∷ []) later)) ≡ cons_option (tasks_loaded kind act) (register (tasks_loaded kind) later)
      at (Loaded p ts) is h =
          map_if (λ (row : ProgrammeRow). tasks_at (before ++ e ∷ later) row.seq) (same_text p.kind kind) (programme_row (next before) p) _ ts _ (ap (λ o. option_map_or (λ (x : Entry). tasks_of x.act) o []) here ∙ ap tasks_of is) h
      at _ is h = h

  after_if : (o : Option ProgrammeRow) → option_map_or (λ (row : ProgrammeRow). row.revision + 1) o 1 ≡ option_map_or (λ n. n + 1) (option_map (λ (row : ProgrammeRow). row.revision) o) 1
  after_if None = refl
  after_if (Some row) = refl

  pub revision_is : (book : List Entry) → revision_after (filter is_of_kind (programme_rows book)) ≡ next_revision book kind
  revision_is book =
      let rows = filter is_of_kind (programme_rows book) in
      after_if (last_of rows) ∙ ap (λ o. option_map_or (λ n. n + 1) o 1) (sym (last-map (λ (row : ProgrammeRow). row.revision) rows) ∙ ap last_of (revisions_from [] book))

  -- ── a revision has 32 bits ──

  loaded_low : (n : ℕ) → within 1 LAST_REVISION n ≡ true → n ≤ LAST_REVISION
  loaded_low n h = let most = (both_true (nat_le 1 n) (nat_le n LAST_REVISION) h).1 in grind (arith, nat_tests)

  all_low : (book : List Entry) → list_all has_shape book ≡ true → AllByRecursion (λ n. n ≤ LAST_REVISION) (register (revision_loaded kind) book)
  all_low [] h = tt
  all_low (e ∷ book) h = let both = both_true (has_shape e) (list_all has_shape book) h in at e.doc e.act both.0 (all_low book both.1)
    where
      more : (b : Bool) (n : ℕ) → n ≤ LAST_REVISION → AllByRecursion (λ m. m ≤ LAST_REVISION) (register (revision_loaded kind) book) → AllByRecursion (λ m. m ≤ LAST_REVISION) (cons_option (cond b (Some n) None) (register (revision_loaded kind) book))
      more true n low rest = (low, rest)
      more false n low rest = rest

      at : (doc : List ℕ) (act : Act) → has_shape (record { doc = doc; act = act }) ≡ true → AllByRecursion (λ n. n ≤ LAST_REVISION) (register (revision_loaded kind) book)
          → AllByRecursion (λ n. n ≤ LAST_REVISION) (cons_option (revision_loaded kind act) (register (revision_loaded kind) book))
      at doc (Loaded p ts) shape rest =
          more (same_text p.kind kind) p.revision (loaded_low p.revision (both_true _ _ (both_true (act_shape (Loaded p ts)) (doc_shape doc (Loaded p ts)) shape).0).0) rest
      at doc _ shape rest = rest

  pub revision_low : (book : List Entry) → IsBook book → next_revision book kind < 2 ^ 32
  revision_low book b = at (last_of (register (revision_loaded kind) book)) (all_last (λ n. n ≤ LAST_REVISION) (register (revision_loaded kind) book) (all_low book b.shaped))
    where
      at : (o : Option ℕ) → IfSome o (λ n. n ≤ LAST_REVISION) → option_map_or (λ n. n + 1) o 1 < 2 ^ 32
      at None h = omega arith
      at (Some n) h = omega arith

  -- ── the tasks in force ──

  said_lines : (seq line : ℕ) (ts : List Task) → AllByRecursion (IsSaid task_lines task_row) ts → map task_said (lines_from task_row seq line ts) ≡ ts
  said_lines seq line [] h = refl
  said_lines seq line (t ∷ ts) h = ap₂ ◌∷◌ (same_some (h.0 seq line)) (said_lines seq (line + 1) ts h.1)

  said_by : (doc : List ℕ) (act : Act) → has_shape (record { doc = doc; act = act }) ≡ true → AllByRecursion (IsSaid task_lines task_row) (tasks_of act)
  said_by doc (Loaded p ts) shape = tasks_said doc p ts shape
  said_by doc _ shape = tt

  -- the rows with a number say the tasks that the entry with that number loads
  rows_say : (book : List Entry) → IsBook book → (n : ℕ) → map task_said (filter (λ (row : TaskRow). nat_eq row.seq n) (task_rows book)) ≡ tasks_at book n
  rows_say book b n = ap (map task_said) (rows_at tasks tasks_law book n) ∙ at n
    where
      entry : (m k : ℕ) (o : Option Entry) → entry_at book m ≡ o → map task_said (option_map_or (λ (e : Entry). lines_from task_row k 1 (tasks_of e.act)) o []) ≡ option_map_or (λ (e : Entry). tasks_of e.act) o []
      entry m k None i = refl
      entry m k (Some e) i = said_lines k 1 (tasks_of e.act) (said_by e.doc e.act (shape_at book m e b (entry_is_at book b m e i)))

      at : (m : ℕ) → map task_said (given_by tasks.seq (λ before e. tasks.given (next before) before e.act) (λ before e. tasks_law.numbered (next before) before e.act) book m) ≡ tasks_at book m
      at zero = refl
      at (suc k) = entry (suc k) (next (take k book)) (slice_get book k) refl

  abbrev number_in : List Entry → Option ℕ
  number_in book = programme_number (filter is_of_kind (programme_rows book))

  of_number : {X : Type 0} (f : ℕ → X) (o : Option ProgrammeRow) → option_map f (option_map (λ (row : ProgrammeRow). row.seq) o) ≡ option_map (λ (row : ProgrammeRow). f row.seq) o
  of_number f None = refl
  of_number f (Some row) = refl

  in_force : (book : List Entry) → option_map (tasks_at book) (number_in book) ≡ tasks_in_force book kind
  in_force book =
      let rows = filter is_of_kind (programme_rows book) in
      of_number (tasks_at book) (last_of rows) ∙ sym (last-map (λ (row : ProgrammeRow). tasks_at book row.seq) rows) ∙ ap last_of (tasks_from [] book)

  map_same : {X Y : Type 0} (f g : X → Y) → ((x : X) → f x ≡ g x) → (o : Option X) → option_map f o ≡ option_map g o
  map_same f g same None = refl
  map_same f g same (Some x) = ap (λ y. Some y) (same x)

  map_twice : {X Y Z : Type 0} (f : X → Y) (g : Y → Z) (o : Option X) → option_map g (option_map f o) ≡ option_map (λ x. g (f x)) o
  map_twice f g None = refl
  map_twice f g (Some x) = refl

  abbrev rows_of : List Entry → ℕ → List TaskRow
  rows_of book n = filter (λ (row : TaskRow). nat_eq row.seq n) (task_rows book)

  pub tasks_are : (book : List Entry) → IsBook book → option_map (λ n. map task_said (rows_of book n)) (number_in book) ≡ tasks_in_force book kind
  tasks_are book b = map_same (λ n. map task_said (rows_of book n)) (tasks_at book) (rows_say book b) (number_in book) ∙ in_force book

  -- the first row of a name says the first task of that name
  find_said : (id : List ℕ) (rows : List TaskRow) → task_in rows id ≡ find (λ (t : Task). same_text t.id id) (map task_said rows)
  find_said id [] = refl
  find_said id (row ∷ rows) = at (same_text row.id id) (find_said id rows)
    where
      at : (b : Bool) → task_in rows id ≡ find (λ (t : Task). same_text t.id id) (map task_said rows)
          → option_map task_said (cond b (Some row) (find (λ (r : TaskRow). same_text r.id id) rows)) ≡ cond b (Some (task_said row)) (find (λ (t : Task). same_text t.id id) (map task_said rows))
      at true h = refl
      at false h = h

  pub task_is : (book : List Entry) (id : List ℕ) → IsBook book → option_map (λ n. task_in (rows_of book n) id) (number_in book) ≡ task_of book kind id
  task_is book id b =
      map_same (λ n. task_in (rows_of book n) id) (λ n. find (λ (t : Task). same_text t.id id) (map task_said (rows_of book n))) (λ n. find_said id (rows_of book n)) (number_in book)
      ∙ sym (map_twice (λ n. map task_said (rows_of book n)) (find (λ (t : Task). same_text t.id id)) (number_in book))
      ∙ ap (option_map (find (λ (t : Task). same_text t.id id))) (tasks_are book b)

  -- ── what retires an item ──

  any_said : (test : Task → Bool) (of_row : TaskRow → Bool) → ((row : TaskRow) → of_row row ≡ test (task_said row)) → (rows : List TaskRow) → list_any of_row rows ≡ list_any test (map task_said rows)
  any_said test of_row same [] = refl
  any_said test of_row same (row ∷ rows) = ap₂ ◌||◌ (same row) (any_said test of_row same rows)

  or_false : {X Y : Type 0} (f : X → Y) (g : Y → Bool) (o : Option X) (p : Option Y) → option_map f o ≡ p → option_map_or (λ x. g (f x)) o false ≡ option_map_or g p false
  or_false f g None p h = ap (λ q. option_map_or g q false) h
  or_false f g (Some x) p h = ap (λ q. option_map_or g q false) h

  or_same : {X : Type 0} (f g : X → Bool) → ((x : X) → f x ≡ g x) → (o : Option X) → option_map_or f o false ≡ option_map_or g o false
  or_same f g same None = refl
  or_same f g same (Some x) = same x

  -- the item has this part, an airframe none, and this birth
  abbrev Matches : List Entry → Item → Option (List ℕ) → ℕ → Type 0
  Matches book item part birth = ((of_row : Option (List ℕ)) → option_eq same_text of_row part ≡ is_done_in (found_of book item) (applies_said of_row)) × (birth ≡ birth_of book item)

  ended_is : (book : List Entry) → IsBook book → (item : Item) (part : Option (List ℕ)) (birth : ℕ) (life : Use) (day : ℕ) → Matches book item part birth → life_now book item ≡ Some life
      → option_map_or (λ n. is_retired_in part birth life day (rows_of book n)) (number_in book) false ≡ life_ended book kind item day
  ended_is book b item part birth life day matches alive =
      or_same (λ n. is_retired_in part birth life day (rows_of book n)) (λ n. list_any (is_at_end book item life day) (map task_said (rows_of book n)))
      (λ n. any_said (is_at_end book item life day) (retires part birth life day)
      (λ row. ap₂ (λ (c : Bool) (m : ℕ). row.retire && (c && is_used_up (left_of (first_due m (task_said row)) life day))) (matches.0 row.part) matches.1) (rows_of book n)) (number_in book)
      ∙ or_false (λ n. map task_said (rows_of book n)) (list_any (is_at_end book item life day)) (number_in book) (tasks_in_force book kind) (tasks_are book b)
      ∙ sym (ap (λ o. option_map_or (is_ended_by book kind item day) o false) alive)

  matches_aircraft : (book : List Entry) (tail : List ℕ) (a : Aircraft) → aircraft book tail ≡ Some a → Matches book (items.Airframe tail) None a.birth
  matches_aircraft book tail a h = (at, sym (ap (λ o. option_map_or (λ (x : Aircraft). x.birth) o 0) h))
    where
      at : (of_row : Option (List ℕ)) → option_eq same_text of_row None ≡ is_done_in (found_of book (items.Airframe tail)) (applies_said of_row)
      at None = sym (ap is_some h)
      at (Some part) = refl

  matches_component : (book : List Entry) (serial : List ℕ) (c : Component) → component book serial ≡ Some c → Matches book (items.Component serial) (Some c.part) c.birth
  matches_component book serial c h = (at, sym (ap (λ o. option_map_or (λ (x : Component). x.birth) o 0) h))
    where
      at : (of_row : Option (List ℕ)) → option_eq same_text of_row (Some c.part) ≡ is_done_in (found_of book (items.Component serial)) (applies_said of_row)
      at None = refl
      at (Some part) = same_sym part c.part ∙ sym (ap (λ o. option_map_or (λ (x : Component). same_text x.part part) o false) h)

  pub airframe_ended : (book : List Entry) (tail : List ℕ) (a : Aircraft) (life : Use) (day : ℕ) → IsBook book → aircraft book tail ≡ Some a → life_now book (items.Airframe tail) ≡ Some life
      → option_map_or (λ n. is_retired_in None a.birth life day (rows_of book n)) (number_in book) false ≡ life_ended book kind (items.Airframe tail) day
  airframe_ended book tail a life day b h alive = ended_is book b (items.Airframe tail) None a.birth life day (matches_aircraft book tail a h) alive

  pub component_ended : (book : List Entry) (serial : List ℕ) (c : Component) (life : Use) (day : ℕ) → IsBook book → component book serial ≡ Some c → life_now book (items.Component serial) ≡ Some life
      → option_map_or (λ n. is_retired_in (Some c.part) c.birth life day (rows_of book n)) (number_in book) false ≡ life_ended book kind (items.Component serial) day
  component_ended book serial c life day b h alive = ended_is book b (items.Component serial) (Some c.part) c.birth life day (matches_component book serial c h) alive

-- ── the shape of tasks ──

shapes_in : (p : Programme) (ts : List Task) → programme_shape p ts ≡ true → list_all task_shape ts ≡ true
shapes_in p ts h = (both_true (list_all task_shape ts) _ (both_true _ _ (both_true _ _ h).1).1).0

shapes_by : (doc : List ℕ) (act : Act) → has_shape (record { doc = doc; act = act }) ≡ true → list_all task_shape (tasks_of act) ≡ true
shapes_by doc (Loaded p ts) shape = shapes_in p ts (both_true (act_shape (Loaded p ts)) (doc_shape doc (Loaded p ts)) shape).0
shapes_by doc _ shape = refl

pub all_said : (rows : List TaskRow) → list_all (λ (row : TaskRow). task_shape (task_said row)) rows ≡ list_all task_shape (map task_said rows)
all_said [] = refl
all_said (row ∷ rows) = ap (λ b. task_shape (task_said row) && b) (all_said rows)

pub tasks_shaped : (book : List Entry) (n : ℕ) → IsBook book → list_all (λ (row : TaskRow). task_shape (task_said row)) (filter (λ (row : TaskRow). nat_eq row.seq n) (task_rows book)) ≡ true
tasks_shaped book n b = all_said (filter (λ (row : TaskRow). nat_eq row.seq n) (task_rows book)) ∙ ap (list_all task_shape) (rows_say [] book b n) ∙ at (entry_at book n) refl
  where
    at : (o : Option Entry) → entry_at book n ≡ o → list_all task_shape (option_map_or (λ (e : Entry). tasks_of e.act) o []) ≡ true
    at None i = refl
    at (Some e) i = shapes_by e.doc e.act (shape_at book n e b (entry_is_at book b n e i))
