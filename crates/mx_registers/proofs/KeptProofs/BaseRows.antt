-- The rows of the last bases: what is in the row of a task of an item.
use Rattle.std.proofs.Common.{arith, refl, sym, ap, ◌∙◌, ◌≡◌, ℕ, ◌+◌, zero, suc, length, List, [], ◌∷◌, ◌++◌, Bool, true, false, cond, nat_eq, ◌&&◌, ◌||◌, Option, Some, None, length-append}
use Rattle.std.specs.Prelude.{is_some, not, filter, find, slice_get}
use Rattle.std.specs.List.{list_any, filter_map, flat_map, cons_option, AllByRecursion}
use Rattle.std.specs.Option.{option_map, option_or, option_and_then}
use Rattle.std.proofs.lemmas.Bool.Decides.{Decides-eqb}
use Rattle.std.proofs.lemmas.List.Folds.{find-append, list_any-append}
use Rattle.mx_base.specs.declared.amounts.Base.{Base}
use Rattle.mx_book.specs.commands.Act.{Act, Entry, Added, Listed, Loaded, Opened, Flown, Fitted, Removed, Released, Deferred, Extended}
use Rattle.mx_book.specs.commands.Same.{same_text, same_item}
use Rattle.mx_book.specs.declared.commands.item.Item.{Item}
use Rattle.mx_book.specs.declared.commands.release.Line.{Line}
use Rattle.mx_book.specs.declared.commands.release.Line.TheVariants.{Done, Rectified}
use Rattle.mx_book.proofs.CommandsProofs.SameLemmas.{text_same}
use Rattle.mx_book.specs.Book.{IsBook}
use Rattle.mx_book.specs.Programme.{is_done, accomplishes, is_accomplished}
use Rattle.mx_book.specs.Base.{base}
use Rattle.mx_book.proofs.BaseLemmas.{accomplished-base}
use Rattle.mx_book.proofs.NamedLemmas.{any_named}
use Rattle.mx_registers.specs.Names.{item_added, item_at}
use Rattle.mx_registers.specs.Registers.{gives_by, next}
use Rattle.mx_base.specs.declared.rows.rows.BaseRow.{BaseRow}
use Rattle.mx_base.specs.rows.Rows.{base_in_row, base_row_with}
use Rattle.mx_registers.specs.kept.Bases.{base_in, base_row, base_rows, base_rows_of, each_once, task_done, tasks_accomplished, tasks_by}
use Rattle.mx_registers.specs.kept.Items.{items, items_by}
use Rattle.mx_registers.proofs.KeptProofs.ItemNumbers.{items_numbered}

-- ── the tasks that were accomplished ──

-- a text that is among some is among those where each comes first
any_once : (id : List ℕ) (xs : List (List ℕ)) → list_any (λ t. same_text t id) (each_once xs) ≡ list_any (λ t. same_text t id) xs
any_once id [] = refl
any_once id (x ∷ xs) = at (same_text x id) refl (any_once id xs)
  where
    others : same_text x id ≡ false → (ys : List (List ℕ)) → list_any (λ t. same_text t id) (filter (λ other. not (same_text other x)) ys) ≡ list_any (λ t. same_text t id) ys
    others e [] = refl
    others e (y ∷ ys) = here (same_text y x) refl (others e ys)
      where
        here : (b : Bool) → same_text y x ≡ b → list_any (λ t. same_text t id) (filter (λ other. not (same_text other x)) ys) ≡ list_any (λ t. same_text t id) ys
            → list_any (λ t. same_text t id) (cond (not b) (y ∷ filter (λ other. not (same_text other x)) ys) (filter (λ other. not (same_text other x)) ys)) ≡ same_text y id || list_any (λ t. same_text t id) ys
        here true f rest = rest ∙ ap (λ b. b || list_any (λ t. same_text t id) ys) (sym (ap (λ (t : List ℕ). same_text t id) ((text_same y x).0 f) ∙ e))
        here false f rest = ap (λ b. same_text y id || b) rest

    at : (b : Bool) → same_text x id ≡ b → list_any (λ t. same_text t id) (each_once xs) ≡ list_any (λ t. same_text t id) xs
        → b || list_any (λ t. same_text t id) (filter (λ other. not (same_text other x)) (each_once xs)) ≡ b || list_any (λ t. same_text t id) xs
    at true e rest = refl
    at false e rest = others e (each_once xs) ∙ rest

done_as : (item : Item) (id : List ℕ) (line : Line) (rest : List (List ℕ)) → list_any (λ t. same_text t id) (cons_option (task_done item line) rest) ≡ is_done item id line || list_any (λ t. same_text t id) rest
done_as item id (Done done task) rest = at (same_item done item)
  where
    at : (b : Bool) → list_any (λ t. same_text t id) (cons_option (cond b (Some task) None) rest) ≡ (b && same_text task id) || list_any (λ t. same_text t id) rest
    at true = refl
    at false = refl
done_as item id (Rectified doc) rest = refl

lines_as : (item : Item) (id : List ℕ) (lines : List Line) → list_any (λ t. same_text t id) (filter_map (task_done item) lines) ≡ list_any (is_done item id) lines
lines_as item id [] = refl
lines_as item id (line ∷ lines) = done_as item id line (filter_map (task_done item) lines) ∙ ap (λ b. is_done item id line || b) (lines_as item id lines)

tasks_as : (item : Item) (id : List ℕ) (act : Act) → list_any (λ t. same_text t id) (tasks_by item act) ≡ accomplishes item id act
tasks_as item id (Opened o) = at (same_item o.item item) (same_text o.task id) refl
  where
    at : (b c : Bool) → same_text o.task id ≡ c → list_any (λ t. same_text t id) (cond b (o.task ∷ []) []) ≡ b && c
    at true true e = ap (λ b. b || false) e
    at true false e = ap (λ b. b || false) e
    at false c e = refl
tasks_as item id (Released r lines) = lines_as item id lines
tasks_as item id _ = refl

each_tasks : (item : Item) (id : List ℕ) (book : List Entry) → list_any (λ (e : Entry). list_any (λ t. same_text t id) (tasks_by item e.act)) book ≡ is_accomplished book item id
each_tasks item id [] = refl
each_tasks item id (e ∷ book) = ap (λ b. b || list_any (λ (e : Entry). list_any (λ t. same_text t id) (tasks_by item e.act)) book) (tasks_as item id e.act) ∙ ap (λ b. accomplishes item id e.act || b) (each_tasks item id book)

-- a task is among those accomplished of an item exactly where it has a base
pub accomplished_based : (book : List Entry) (item : Item) (id : List ℕ) → list_any (λ t. same_text t id) (tasks_accomplished book item) ≡ is_some (base book item id)
accomplished_based book item id =
    any_once id (flat_map (λ (e : Entry). tasks_by item e.act) book)
    ∙ any_named (λ t. same_text t id) (λ (e : Entry). tasks_by item e.act) book
    ∙ each_tasks item id book ∙ sym (accomplished-base book item id)

-- ── the rows of an item ──

module _ (book : List Entry) (n : ℕ) (id : List ℕ) where
  abbrev is_row : BaseRow → Bool
  is_row row = nat_eq row.item n && same_text row.task id

  abbrev found : List BaseRow → Option Base
  found rows = option_map base_in_row (find is_row rows)

  none_unless : (test : Bool) (b : Option Base) → is_some b ≡ test → cond test b None ≡ b
  none_unless true b h = refl
  none_unless false None h = refl
  none_unless false (Some x) h = (cc)

  -- among the rows of the item with the number, the one of the task has its base
  rows_of_item : (item : Item) (xs : List (List ℕ)) → found (filter_map (base_row book (n, item)) xs) ≡ cond (list_any (λ t. same_text t id) xs) (base book item id) None
  rows_of_item item [] = refl
  rows_of_item item (x ∷ xs) = at (base book item x) refl (rows_of_item item xs)
    where
      self : nat_eq n n ≡ true
      self = (Decides-eqb n n).1 refl

      nothing : (b : Bool) → base book item id ≡ None → cond b (base book item id) None ≡ base book item id
      nothing true e = refl
      nothing false e = sym e

      there : (c : Bool) (b : Base) → same_text x id ≡ c → base book item x ≡ Some b → found (filter_map (base_row book (n, item)) xs) ≡ cond (list_any (λ t. same_text t id) xs) (base book item id) None
          → option_map base_in_row (cond (true && c) (Some (base_row_with n x b)) (find is_row (filter_map (base_row book (n, item)) xs))) ≡ cond (c || list_any (λ t. same_text t id) xs) (base book item id) None
      there true b e f rest = sym f ∙ ap (base book item) ((text_same x id).0 e)
      there false b e f rest = rest

      absent : (c : Bool) → same_text x id ≡ c → base book item x ≡ None → found (filter_map (base_row book (n, item)) xs) ≡ cond (list_any (λ t. same_text t id) xs) (base book item id) None
          → found (filter_map (base_row book (n, item)) xs) ≡ cond (c || list_any (λ t. same_text t id) xs) (base book item id) None
      absent true e f rest = rest ∙ nothing (list_any (λ t. same_text t id) xs) (ap (base book item) (sym ((text_same x id).0 e)) ∙ f)
      absent false e f rest = rest

      at : (o : Option Base) → base book item x ≡ o → found (filter_map (base_row book (n, item)) xs) ≡ cond (list_any (λ t. same_text t id) xs) (base book item id) None
          → found (cons_option (option_map (λ b. base_row_with n x b) o) (filter_map (base_row book (n, item)) xs)) ≡ cond (same_text x id || list_any (λ t. same_text t id) xs) (base book item id) None
      at (Some b) e rest =
          ap (λ c. option_map base_in_row (cond (c && same_text x id) (Some (base_row_with n x b)) (find is_row (filter_map (base_row book (n, item)) xs)))) self
          ∙ there (same_text x id) b refl e rest
      at None e rest = absent (same_text x id) refl e rest

  -- no row of an item with another number is the one
  rows_of_other : (x : ℕ × Item) → nat_eq x.0 n ≡ false → (xs : List (List ℕ)) → find is_row (filter_map (base_row book x) xs) ≡ None
  rows_of_other x e [] = refl
  rows_of_other x e (t ∷ ts) = at (base book x.1 t) (rows_of_other x e ts)
    where
      at : (o : Option Base) → find is_row (filter_map (base_row book x) ts) ≡ None → find is_row (cons_option (option_map (λ b. base_row_with x.0 t b) o) (filter_map (base_row book x) ts)) ≡ None
      at None rest = rest
      at (Some b) rest = ap (λ c. cond (c && same_text t id) (Some (base_row_with x.0 t b)) (find is_row (filter_map (base_row book x) ts))) e ∙ rest

  map_or : {X Y : Type 0} (f : X → Y) (o p : Option X) → option_map f (option_or o p) ≡ option_or (option_map f o) (option_map f p)
  map_or f None p = refl
  map_or f (Some x) p = refl

  or_same : (o : Option Base) (b : Bool) → option_or o (cond b o None) ≡ o
  or_same None true = refl
  or_same None false = refl
  or_same (Some x) b = refl

  -- the rows of some items, all those with the number being one item
  rows_of_items : (item : Item) (xs : List (ℕ × Item)) → AllByRecursion (λ (x : ℕ × Item). nat_eq x.0 n ≡ true → x.1 ≡ item) xs
      → found (flat_map (base_rows_of book) xs) ≡ cond (list_any (λ (x : ℕ × Item). nat_eq x.0 n) xs) (base book item id) None
  rows_of_items item [] h = refl
  rows_of_items item (x ∷ xs) h =
      ap (option_map base_in_row) (find-append is_row (base_rows_of book x) (flat_map (base_rows_of book) xs))
      ∙ map_or base_in_row (find is_row (base_rows_of book x)) (find is_row (flat_map (base_rows_of book) xs))
      ∙ ap (option_or (found (base_rows_of book x))) (rows_of_items item xs h.1)
      ∙ at (nat_eq x.0 n) refl
    where
      any_rest : Bool
      any_rest = list_any (λ (x : ℕ × Item). nat_eq x.0 n) xs

      at : (c : Bool) → nat_eq x.0 n ≡ c → option_or (found (base_rows_of book x)) (cond (list_any (λ (x : ℕ × Item). nat_eq x.0 n) xs) (base book item id) None) ≡ cond (c || list_any (λ (x : ℕ × Item). nat_eq x.0 n) xs) (base book item id) None
      at true e =
          let same = h.0 e in
          let number = (Decides-eqb x.0 n).0 e in
          let own : found (base_rows_of book x) ≡ base book item id =
          ap (λ i. found (filter_map (base_row book (x.0, i)) (tasks_accomplished book i))) same
          ∙ ap (λ m. found (filter_map (base_row book (m, item)) (tasks_accomplished book item))) number
          ∙ rows_of_item item (tasks_accomplished book item)
          ∙ none_unless (list_any (λ t. same_text t id) (tasks_accomplished book item)) (base book item id) (sym (accomplished_based book item id)) in
          ap (λ o. option_or o (cond (list_any (λ (x : ℕ × Item). nat_eq x.0 n) xs) (base book item id) None)) own ∙ or_same (base book item id) (list_any (λ (x : ℕ × Item). nat_eq x.0 n) xs)
      at false e = ap (λ o. option_or (option_map base_in_row o) (cond (list_any (λ (x : ℕ × Item). nat_eq x.0 n) xs) (base book item id) None)) (rows_of_other x e (tasks_accomplished book x.1))

-- ── the item with a number ──

pub all_from : {X : Type 0} (P Q : X → Type 0) → ((x : X) → P x → Q x) → (xs : List X) → AllByRecursion P xs → AllByRecursion Q xs
all_from P Q each [] h = tt
all_from P Q each (x ∷ xs) h = (each x h.0, all_from P Q each xs h.1)

-- an item that has a number is listed with it
listed_from : (n : ℕ) (before later : List Entry) → (k : ℕ) → n ≡ length before + suc k → is_some (option_and_then (λ (e : Entry). item_added e.act) (slice_get later k)) ≡ true
    → list_any (λ (x : ℕ × Item). nat_eq x.0 n) (gives_by items_by before later) ≡ true
listed_from n before [] k e h = (cc)
listed_from n before (x ∷ later) zero e h = here x.act h
  where
    number : nat_eq (next before) n ≡ true
    number = (Decides-eqb (next before) n).1 (omega arith)

    here : (act : Act) → is_some (item_added act) ≡ true → list_any (λ (y : ℕ × Item). nat_eq y.0 n) (items_by before act ++ gives_by items_by (before ++ x ∷ []) later) ≡ true
    here (Added a positions) h = ap (λ b. b || list_any (λ (y : ℕ × Item). nat_eq y.0 n) (gives_by items_by (before ++ x ∷ []) later)) number
    here (Listed c) h = ap (λ b. b || list_any (λ (y : ℕ × Item). nat_eq y.0 n) (gives_by items_by (before ++ x ∷ []) later)) number
    here (Loaded p tasks) h = (cc)
    here (Opened o) h = (cc)
    here (Flown s) h = (cc)
    here (Fitted f) h = (cc)
    here (Removed r) h = (cc)
    here (Released r lines) h = (cc)
    here (Deferred d) h = (cc)
    here (Extended y) h = (cc)
listed_from n before (x ∷ later) (suc k) e h =
    let number : n ≡ length (before ++ x ∷ []) + suc k = omega (arith, length-append before (x ∷ [])) in
    list_any-append (λ (y : ℕ × Item). nat_eq y.0 n) (items_by before x.act) (gives_by items_by (before ++ x ∷ []) later)
    ∙ ap (λ b. list_any (λ (y : ℕ × Item). nat_eq y.0 n) (items_by before x.act) || b) (listed_from n (before ++ x ∷ []) later k number h)
    ∙ or_true (list_any (λ (y : ℕ × Item). nat_eq y.0 n) (items_by before x.act))
  where
    or_true : (b : Bool) → b || true ≡ true
    or_true true = refl
    or_true false = refl

pub number_listed : (book : List Entry) (n : ℕ) (item : Item) → item_at book n ≡ Some item → list_any (λ (x : ℕ × Item). nat_eq x.0 n) (items book) ≡ true
number_listed book zero item h = (cc)
number_listed book (suc k) item h = listed_from (suc k) [] book k (omega arith) (ap is_some h)

-- the row of a task of the item with a number has its last base, and there is none where it has none
pub base_in_rows : (book : List Entry) (n : ℕ) (item : Item) (id : List ℕ) → IsBook book → item_at book n ≡ Some item → base_in (base_rows book) n id ≡ base book item id
base_in_rows book n item id b h =
    rows_of_items book n id item (items book)
    (all_from (λ (x : ℕ × Item). item_at book x.0 ≡ Some x.1) (λ (x : ℕ × Item). nat_eq x.0 n ≡ true → x.1 ≡ item)
    (λ x is e. let p : Some x.1 ≡ Some item = sym is ∙ ap (item_at book) ((Decides-eqb x.0 n).0 e) ∙ h in cc) (items book) (items_numbered book b))
    ∙ ap (λ c. cond c (base book item id) None) (number_listed book n item h)
