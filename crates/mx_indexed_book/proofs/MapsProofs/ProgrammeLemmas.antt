-- Which entry loaded the programme in force.
use Rattle.std.proofs.Common.{arith, refl, sym, ap, ◌∙◌, ◌≡◌, ℕ, ◌+◌, length, suc, List, [], ◌∷◌, ◌++◌, append_assoc, Bool, true, false, cond, Option, Some, None, slice_get}
use Rattle.std.specs.Prelude.{fold}
use Rattle.std.specs.List.{cons_option, filter_map, list_any}
use Rattle.std.specs.Option.{option_and_then, option_map, option_map_or}
use Rattle.std.specs.Ordering.{nat_cmp}
use Rattle.std.specs.Cmp.Lexicographic.{slice_cmp}
use Rattle.std.proofs.lemmas.List.{length-append}
use Rattle.mx_book.specs.commands.Act.{Act, Entry, Loaded}
use Rattle.mx_book.specs.commands.Same.{same_text}
use Rattle.mx_base.specs.declared.amounts.Use.{Use}
use Rattle.mx_book.specs.declared.commands.item.Item.{Item}
use Rattle.mx_book.specs.declared.commands.programme.Task.{Task}
use Rattle.mx_book.specs.Book.{entry_at}
use Rattle.mx_book.specs.Life.{life_now}
use Rattle.mx_book.specs.Programme.{is_at_end, is_ended_by, last_of, life_ended, next_revision, revision_in_force, revision_loaded, tasks_in_force, tasks_loaded}
use Rattle.mx_book.specs.Register.{register}
use Rattle.mx_registers.specs.Names.{adds_named}
use Rattle.mx_indexed_book.specs.maps.Maps.{changed}
use Rattle.mx_indexed_book.specs.maps.Programmes.{kind_loaded, last_loaded, last_loaded_from, programme_changed, programme_entry}
use Rattle.mx_indexed_book.proofs.MapsProofs.MapLemmas.{tie}

-- ── one more entry ──

one_more : (kind : List ℕ) (k : ℕ) (before : Option ℕ) (book : List Entry) (entry : Entry)
    → last_loaded_from kind k before (book ++ entry ∷ []) ≡ cond (adds_named kind_loaded kind entry) (Some (k + length book)) (last_loaded_from kind k before book)
one_more kind k before [] entry = let same : k ≡ k + 0 = omega arith in ap (λ (n : ℕ). cond (adds_named kind_loaded kind entry) (Some n) before) same
one_more kind k before (e ∷ book) entry =
    let same : (k + 1) + length book ≡ k + length (e ∷ book) = omega arith in
    one_more kind (k + 1) (cond (adds_named kind_loaded kind e) (Some k) before) book entry
    ∙ ap (λ (n : ℕ). cond (adds_named kind_loaded kind entry) (Some n) (last_loaded_from kind k before (e ∷ book))) same

changed_by : (kind : List ℕ) (n : ℕ) (o : Option (List ℕ)) (old : Option ℕ) → cond (option_map_or (λ added. same_text added kind) o false) (Some n) old ≡ changed (slice_cmp nat_cmp) (option_map (λ (k : List ℕ). (k, Some n)) o) kind old
changed_by kind n None old = refl
changed_by kind n (Some loaded) old = ap (λ b. cond b (Some n) old) (sym (tie loaded kind))

pub programme_moves : (book : List Entry) (entry : Entry) (kind : List ℕ) → last_loaded (book ++ entry ∷ []) kind ≡ changed (slice_cmp nat_cmp) (programme_changed book entry) kind (last_loaded book kind)
programme_moves book entry kind =
    let same : 1 + length book ≡ length book + 1 = omega arith in
    one_more kind 1 None book entry
    ∙ ap (λ (n : ℕ). cond (adds_named kind_loaded kind entry) (Some n) (last_loaded book kind)) same
    ∙ changed_by kind (length book + 1) (kind_loaded entry) (last_loaded book kind)

-- ── what the entry says is in force ──

get_seam : (before later : List Entry) (e : Entry) → slice_get (before ++ e ∷ later) (length before) ≡ Some e
get_seam [] later e = refl
get_seam (x ∷ before) later e = get_seam before later e

-- something is picked exactly where it is so
abbrev IsPicked : {X : Type 0} → Bool → Option X → Type 0
IsPicked {X = X} true o = (x : X) × (o ≡ Some x)
IsPicked false o = o ≡ None

module _ {X : Type 0} (kind : List ℕ) (pick : Act → Option X) where
  abbrev said : List Entry → Option ℕ → Option X
  said whole number = option_and_then (λ (e : Entry). pick e.act) (option_and_then (entry_at whole) number)

  abbrev last_from : Option X → List Entry → Option X
  last_from o later = fold (λ before x. Some x) o (filter_map (λ (e : Entry). pick e.act) later)

  next : (whole : List Entry) (k : ℕ) (e : Entry) (later : List Entry) (o : Option X) (n : Option ℕ) → o ≡ said whole n → said whole (Some k) ≡ pick e.act
      → ((p : Option X) (m : Option ℕ) → p ≡ said whole m → last_from p later ≡ said whole (last_loaded_from kind (k + 1) m later))
      → (b : Bool) → adds_named kind_loaded kind e ≡ b → (p : Option X) → pick e.act ≡ p → IsPicked b p
      → fold (λ before x. Some x) o (cons_option p (filter_map (λ (x : Entry). pick x.act) later)) ≡ said whole (last_loaded_from kind (k + 1) (cond b (Some k) n) later)
  next whole k e later o n h here rest true is None picks is_some = let never = is_some.1 in absurd (cc)
  next whole k e later o n h here rest true is (Some x) picks is_some = rest (Some x) (Some k) (sym (here ∙ picks))
  next whole k e later o n h here rest false is None picks is_none = rest o n h
  next whole k e later o n h here rest false is (Some x) picks is_none = absurd (cc)

  module _ (law : (e : Entry) → IsPicked (adds_named kind_loaded kind e) (pick e.act)) where
    found_from : (before later : List Entry) (o : Option X) (n : Option ℕ) → o ≡ said (before ++ later) n → last_from o later ≡ said (before ++ later) (last_loaded_from kind (length before + 1) n later)
    found_from before [] o n h = h
    found_from before (e ∷ later) o n h =
        let whole = before ++ e ∷ later in
        let joined : (before ++ e ∷ []) ++ later ≡ whole = append_assoc before (e ∷ []) later in
        let one : length (before ++ e ∷ []) ≡ length before + 1 = length-append before (e ∷ []) in
        let seat : length before + 1 ≡ suc (length before) = omega arith in
        next whole (length before + 1) e later o n h
        (ap (option_and_then (λ (x : Entry). pick x.act)) (ap (entry_at whole) seat ∙ get_seam before later e))
        (λ p m g.
        found_from (before ++ e ∷ []) later p m (g ∙ ap (λ (w : List Entry). said w m) (sym joined))
        ∙ ap (λ (w : List Entry). said w (last_loaded_from kind (length (before ++ e ∷ []) + 1) m later)) joined
        ∙ ap (λ (k : ℕ). said whole (last_loaded_from kind (k + 1) m later)) one)
        (adds_named kind_loaded kind e) refl (pick e.act) refl (law e)

    -- the last of what the entries say is what the last entry says that says something
    last_said : (book : List Entry) → last_of (register pick book) ≡ option_and_then (λ (e : Entry). pick e.act) (programme_entry book kind)
    last_said book = found_from [] book None None refl

picked_if : {X : Type 0} (b : Bool) (x : X) → IsPicked b (cond b (Some x) None)
picked_if true x = (x, refl)
picked_if false x = refl

tasks_picked : (kind : List ℕ) (e : Entry) → IsPicked (adds_named kind_loaded kind e) (tasks_loaded kind e.act)
tasks_picked kind e = at e.act
  where
    at : (act : Act) → IsPicked (adds_named kind_loaded kind (record { doc = e.doc; act = act })) (tasks_loaded kind act)
    at (Loaded p tasks) = picked_if (same_text p.kind kind) tasks
    at _ = refl

revision_picked : (kind : List ℕ) (e : Entry) → IsPicked (adds_named kind_loaded kind e) (revision_loaded kind e.act)
revision_picked kind e = at e.act
  where
    at : (act : Act) → IsPicked (adds_named kind_loaded kind (record { doc = e.doc; act = act })) (revision_loaded kind act)
    at (Loaded p tasks) = picked_if (same_text p.kind kind) p.revision
    at _ = refl

pub tasks_there : (book : List Entry) (kind : List ℕ) → tasks_in_force book kind ≡ option_and_then (λ (e : Entry). tasks_loaded kind e.act) (programme_entry book kind)
tasks_there book kind = last_said kind (tasks_loaded kind) (tasks_picked kind) book

pub revision_there : (book : List Entry) (kind : List ℕ) → revision_in_force book kind ≡ option_and_then (λ (e : Entry). revision_loaded kind e.act) (programme_entry book kind)
revision_there book kind = last_said kind (revision_loaded kind) (revision_picked kind) book

-- the same of the entry that was found
pub tasks_by : (book : List Entry) (kind : List ℕ) (found : Option Entry) → found ≡ programme_entry book kind → option_and_then (λ (e : Entry). tasks_loaded kind e.act) found ≡ tasks_in_force book kind
tasks_by book kind found h = ap (option_and_then (λ (e : Entry). tasks_loaded kind e.act)) h ∙ sym (tasks_there book kind)

pub next_by : (book : List Entry) (kind : List ℕ) (found : Option Entry) → found ≡ programme_entry book kind
    → option_map_or (λ n. n + 1) (option_and_then (λ (e : Entry). revision_loaded kind e.act) found) 1 ≡ next_revision book kind
next_by book kind found h =
    ap (λ (o : Option ℕ). option_map_or (λ n. n + 1) o 1) (ap (option_and_then (λ (e : Entry). revision_loaded kind e.act)) h ∙ sym (revision_there book kind))

-- ── what retires an item ──

without_tasks : (book : List Entry) (kind : List ℕ) (item : Item) (day : ℕ) (life : Option Use) → tasks_in_force book kind ≡ None → option_map_or (is_ended_by book kind item day) life false ≡ false
without_tasks book kind item day None h = refl
without_tasks book kind item day (Some life) h = ap (λ (o : Option (List Task)). option_map_or (list_any (is_at_end book item life day)) o false) h

-- without a programme nothing is retired
pub no_programme : (book : List Entry) (kind : List ℕ) (item : Item) (day : ℕ) → tasks_in_force book kind ≡ None → false ≡ life_ended book kind item day
no_programme book kind item day h = sym (without_tasks book kind item day (life_now book item) h)

with_tasks : (book : List Entry) (kind : List ℕ) (item : Item) (day : ℕ) (tasks : List Task) (life : Option Use) → tasks_in_force book kind ≡ Some tasks
    → option_map_or (λ l. list_any (is_at_end book item l day) tasks) life false ≡ option_map_or (is_ended_by book kind item day) life false
with_tasks book kind item day tasks None h = refl
with_tasks book kind item day tasks (Some life) h = sym (ap (λ (o : Option (List Task)). option_map_or (list_any (is_at_end book item life day)) o false) h)

-- with one, what its tasks retire is
pub by_programme : (book : List Entry) (kind : List ℕ) (item : Item) (day : ℕ) (tasks : List Task) → tasks_in_force book kind ≡ Some tasks
    → option_map_or (λ life. list_any (is_at_end book item life day) tasks) (life_now book item) false ≡ life_ended book kind item day
by_programme book kind item day tasks h = with_tasks book kind item day tasks (life_now book item) h
