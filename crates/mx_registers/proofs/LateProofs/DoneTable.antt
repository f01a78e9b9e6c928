-- The accomplishments of a book as one table: the rows of each task of each item, and with a sector that is entered late.
use Rattle.std.proofs.Common.{arith, refl, sym, subst, ap, ◌∙◌, ◌≡◌, ℕ, ◌+◌, ◌<◌, zero, suc, length, List, [], ◌∷◌, ◌++◌, Bool, true, false, cond, nat_eq, ◌&&◌, ◌||◌, Option, Some, None, append-nil}
use Rattle.std.specs.Prelude.{map, filter, fold, is_some, slice_get}
use Rattle.std.specs.List.{list_any, flat_map, AllByRecursion}
use Rattle.std.specs.Option.{option_and_then}
use Rattle.std.proofs.lemmas.Bool.Decides.{Decides-eqb, nat_tests}
use Rattle.std.proofs.lemmas.List.Elements.{filter-append}
use Rattle.mx_base.specs.declared.amounts.Base.{Base}
use Rattle.mx_book.specs.commands.Act.{Entry, Flown}
use Rattle.mx_book.specs.commands.Same.{same_text}
use Rattle.mx_book.specs.commands.Shape.{act_shape}
use Rattle.mx_book.specs.declared.commands.item.Item.{Item}
use Rattle.mx_book.specs.declared.commands.sector.Sector.{Sector}
use Rattle.mx_book.proofs.CommandsProofs.SameLemmas.{text_same}
use Rattle.mx_book.specs.declared.verdict.Verdict.TheVariants.{New}
use Rattle.mx_book.specs.Book.{IsBook, entry_at}
use Rattle.mx_book.specs.Judge.{judge}
use Rattle.mx_registers.specs.Names.{item_added, item_at, or_zero, seq_of_tail, has_item}
use Rattle.mx_base.specs.rows.Rising.{IsRising}
use Rattle.mx_base.specs.declared.rows.rows.DoneRow.{DoneRow}
use Rattle.mx_registers.specs.kept.Items.{items}
use Rattle.mx_registers.specs.kept.Bases.{tasks_accomplished}
use Rattle.mx_registers.specs.kept.Spans.{span_rows}
use Rattle.mx_registers.specs.kept.Totals.{numbers_during}
use Rattle.mx_registers.specs.late.Done.{Placed, placed, done_row, done_chain, done_rows_of, done_rows_at, done_rows, is_behind, value_more, credited_late, rebased, is_done_of, last_base}
use Rattle.mx_registers.proofs.KeptProofs.ItemNumbers.{items_numbered}
use Rattle.mx_registers.proofs.KeptProofs.ItemOrder.{items_from}
use Rattle.mx_registers.proofs.KeptProofs.BaseRows.{accomplished_based, number_listed, all_from}
use Rattle.mx_registers.proofs.KeptProofs.KeyedLemmas.{AreDistinct, once_distinct}
use Rattle.mx_registers.proofs.LateProofs.DoneLate.{credited_rebased, last_base_done}

-- ── rows without a last base ──

behind_some : (rows : List DoneRow) (b : Base) → is_some (fold (λ (before : Option Base) (row : DoneRow). Some row.base) (Some b) rows) ≡ true
behind_some [] b = refl
behind_some (row ∷ rows) b = behind_some rows row.base

pub none_last : (rows : List DoneRow) → is_some (last_base rows) ≡ false → rows ≡ []
none_last [] h = refl
none_last (row ∷ rows) h = let some = behind_some rows row.base in (cc)

-- ── the rows of a task of the item with a number ──

module _ (book : List Entry) (n : ℕ) (id : List ℕ) where
  abbrev mine : DoneRow → Bool
  mine row = is_done_of n id row

  all_or_none : (c : Bool) (m : ℕ) (item : Item) (t : List ℕ) (before : Option Base) (ps : List Placed) → nat_eq m n && same_text t id ≡ c → filter mine (done_chain book m item t before ps) ≡ cond c (done_chain book m item t before ps) []
  all_or_none true m item t before [] e = refl
  all_or_none false m item t before [] e = refl
  all_or_none true m item t before (p ∷ ps) e =
      let rest : List DoneRow = done_chain book m item t (Some ((done_row book m item t before p).base)) ps in
      ap (λ c. cond c (done_row book m item t before p ∷ filter mine rest) (filter mine rest)) e
      ∙ ap (λ l. done_row book m item t before p ∷ l) (all_or_none true m item t (Some ((done_row book m item t before p).base)) ps e)
  all_or_none false m item t before (p ∷ ps) e =
      let rest : List DoneRow = done_chain book m item t (Some ((done_row book m item t before p).base)) ps in
      ap (λ c. cond c (done_row book m item t before p ∷ filter mine rest) (filter mine rest)) e
      ∙ all_or_none false m item t (Some ((done_row book m item t before p).base)) ps e

  joined : (e u any : Bool) (xs ys : List DoneRow) → (u ≡ true → xs ≡ ys) → (u ≡ true → any ≡ false) → cond (e && u) xs [] ++ cond (e && any) ys [] ≡ cond (e && (u || any)) ys []
  joined true true any xs ys same once = ap (λ a. xs ++ cond a ys []) (once refl) ∙ append-nil xs ∙ same refl
  joined true false any xs ys same once = refl
  joined false u any xs ys same once = refl

  none_there : (e : Bool) (xs : List DoneRow) → [] ≡ cond (e && false) xs []
  none_there true xs = refl
  none_there false xs = refl

  of_tasks : (m : ℕ) (item : Item) (ts : List (List ℕ)) → AreDistinct ts → filter mine (flat_map (done_rows_of book m item) ts) ≡ cond (nat_eq m n && list_any (λ t. same_text t id) ts) (done_rows_of book m item id) []
  of_tasks m item [] h = none_there (nat_eq m n) (done_rows_of book m item id)
  of_tasks m item (t ∷ ts) h =
      filter-append mine (done_rows_of book m item t) (flat_map (done_rows_of book m item) ts)
      ∙ ap (λ l. l ++ filter mine (flat_map (done_rows_of book m item) ts)) (all_or_none (nat_eq m n && same_text t id) m item t None (placed book item t) refl)
      ∙ ap (λ l. cond (nat_eq m n && same_text t id) (done_rows_of book m item t) [] ++ l) (of_tasks m item ts h.1)
      ∙ joined (nat_eq m n) (same_text t id) (list_any (λ t. same_text t id) ts) (done_rows_of book m item t) (done_rows_of book m item id)
      (λ e. ap (done_rows_of book m item) ((text_same t id).0 e))
      (λ e. subst (λ (x : List ℕ). list_any (λ other. same_text other x) ts ≡ false) ((text_same t id).0 e) h.0)

  unless_none : (any : Bool) (rows : List DoneRow) → is_some (last_base rows) ≡ any → cond any rows [] ≡ rows
  unless_none true rows h = refl
  unless_none false rows h = sym (none_last rows h)

  pub of_item : (c : Bool) (m : ℕ) (item : Item) → nat_eq m n ≡ c → filter mine (done_rows_at book (m, item)) ≡ cond c (done_rows_of book n item id) []
  of_item true m item e =
      of_tasks m item (tasks_accomplished book item) (once_distinct _)
      ∙ ap (λ c. cond (c && list_any (λ t. same_text t id) (tasks_accomplished book item)) (done_rows_of book m item id) []) e
      ∙ ap (λ k. cond (list_any (λ t. same_text t id) (tasks_accomplished book item)) (done_rows_of book k item id) []) ((Decides-eqb m n).0 e)
      ∙ unless_none (list_any (λ t. same_text t id) (tasks_accomplished book item)) (done_rows_of book n item id) (ap is_some (last_base_done book n item id) ∙ sym (accomplished_based book item id))
  of_item false m item e =
      of_tasks m item (tasks_accomplished book item) (once_distinct _)
      ∙ ap (λ c. cond (c && list_any (λ t. same_text t id) (tasks_accomplished book item)) (done_rows_of book m item id) []) e

  not_equal : (m : ℕ) → n < m → nat_eq m n ≡ false
  not_equal m h = grind (arith, nat_tests)

  none_above : (low high : ℕ) (xs : List (ℕ × Item)) → n < low → IsRising (λ (x : ℕ × Item). x.0) low xs high → list_any (λ (x : ℕ × Item). nat_eq x.0 n) xs ≡ false
  none_above low high [] h up = refl
  none_above low high (x ∷ xs) h up =
      ap (λ c. c || list_any (λ (x : ℕ × Item). nat_eq x.0 n) xs) (not_equal x.0 (omega (arith, up.0))) ∙ none_above (x.0 + 1) high xs (omega (arith, up.0)) up.1

  of_items : (item : Item) (low high : ℕ) (xs : List (ℕ × Item)) → IsRising (λ (x : ℕ × Item). x.0) low xs high → AllByRecursion (λ (x : ℕ × Item). nat_eq x.0 n ≡ true → x.1 ≡ item) xs
      → filter mine (flat_map (done_rows_at book) xs) ≡ cond (list_any (λ (x : ℕ × Item). nat_eq x.0 n) xs) (done_rows_of book n item id) []
  of_items item low high [] up h = refl
  of_items item low high (x ∷ xs) up h =
      filter-append mine (done_rows_at book x) (flat_map (done_rows_at book) xs)
      ∙ ap (λ l. l ++ filter mine (flat_map (done_rows_at book) xs)) (of_item (nat_eq x.0 n) x.0 x.1 refl)
      ∙ ap (λ l. cond (nat_eq x.0 n) (done_rows_of book n x.1 id) [] ++ l) (of_items item (x.0 + 1) high xs up.1 h.1)
      ∙ at (nat_eq x.0 n) refl
    where
      at : (c : Bool) → nat_eq x.0 n ≡ c → cond c (done_rows_of book n x.1 id) [] ++ cond (list_any (λ (x : ℕ × Item). nat_eq x.0 n) xs) (done_rows_of book n item id) [] ≡ cond (c || list_any (λ (x : ℕ × Item). nat_eq x.0 n) xs) (done_rows_of book n item id) []
      at true e =
          let number = (Decides-eqb x.0 n).0 e in
          ap (λ c. done_rows_of book n x.1 id ++ cond c (done_rows_of book n item id) []) (none_above (x.0 + 1) high xs (omega arith) up.1)
          ∙ append-nil (done_rows_of book n x.1 id) ∙ ap (λ i. done_rows_of book n i id) (h.0 e)
      at false e = refl

-- the rows of a task of the item with a number, among all, are those of the task
pub rows_of_task : (book : List Entry) (n : ℕ) (item : Item) (id : List ℕ) → IsBook book → item_at book n ≡ Some item → filter (is_done_of n id) (done_rows book) ≡ done_rows_of book n item id
rows_of_task book n item id b h =
    of_items book n id item 1 (0 + 1 + length book) (items book) (items_from [] book)
    (all_from (λ (x : ℕ × Item). item_at book x.0 ≡ Some x.1) (λ (x : ℕ × Item). nat_eq x.0 n ≡ true → x.1 ≡ item)
    (λ x is e. let p : Some x.1 ≡ Some item = sym is ∙ ap (item_at book) ((Decides-eqb x.0 n).0 e) ∙ h in cc) (items book) (items_numbered book b))
    ∙ ap (λ c. cond c (done_rows_of book n item id) []) (number_listed book n item h)

-- ── a sector more ──

got_before : (xs ys : List Entry) (k : ℕ) (x : Entry) → slice_get xs k ≡ Some x → slice_get (xs ++ ys) k ≡ Some x
got_before [] ys k x h = (cc)
got_before (y ∷ xs) ys zero x h = h
got_before (y ∷ xs) ys (suc k) x h = got_before xs ys k x h

entry_stays : (book more : List Entry) (n : ℕ) (x : Entry) → entry_at book n ≡ Some x → entry_at (book ++ more) n ≡ Some x
entry_stays book more zero x h = (cc)
entry_stays book more (suc k) x h = got_before book more k x h

pub item_stays : (book more : List Entry) (n : ℕ) (item : Item) → item_at book n ≡ Some item → item_at (book ++ more) n ≡ Some item
item_stays book more n item h = at (entry_at book n) refl h
  where
    at : (o : Option Entry) → entry_at book n ≡ o → option_and_then (λ (e : Entry). item_added e.act) o ≡ Some item → item_at (book ++ more) n ≡ Some item
    at None e h = (cc)
    at (Some x) e h = ap (option_and_then (λ (y : Entry). item_added y.act)) (entry_stays book more n x e) ∙ h

of_mapped : (p : DoneRow → Bool) (f : DoneRow → DoneRow) → ((row : DoneRow) → p (f row) ≡ p row) → (rows : List DoneRow) → filter p (map f rows) ≡ map f (filter p rows)
of_mapped p f same [] = refl
of_mapped p f same (row ∷ rows) = ap (λ c. cond c (f row ∷ filter p (map f rows)) (filter p (map f rows))) (same row) ∙ at (p row) (of_mapped p f same rows)
  where
    at : (c : Bool) → filter p (map f rows) ≡ map f (filter p rows) → cond c (f row ∷ filter p (map f rows)) (filter p (map f rows)) ≡ map f (cond c (row ∷ filter p rows) (filter p rows))
    at true rest = ap (λ l. f row ∷ l) rest
    at false rest = rest

same_key : (book : List Entry) (numbers : List ℕ) (s : Sector) (n : ℕ) (id : List ℕ) (row : DoneRow) → is_done_of n id (credited_late book numbers s row) ≡ is_done_of n id row
same_key book numbers s n id row = at (list_any (nat_eq row.item) numbers && is_behind book s row)
  where
    at : (c : Bool) → is_done_of n id (cond {A = DoneRow} c (record row { value = value_more s row.value }) row) ≡ is_done_of n id row
    at true = refl
    at false = refl

-- the rows of a task with a new sector: those that it had, credited late, due and base anew
pub late_rows_of_task : (book : List Entry) (doc : List ℕ) (s : Sector) (n : ℕ) (item : Item) (id : List ℕ) → IsBook book → IsBook (book ++ record { doc = doc; act = Flown s } ∷ []) → judge book (record { doc = doc; act = Flown s }) ≡ New → act_shape (Flown s) ≡ true
    → has_item book item ≡ true → item_at book n ≡ Some item
    → filter (is_done_of n id) (done_rows (book ++ record { doc = doc; act = Flown s } ∷ []))
    ≡ rebased (book ++ record { doc = doc; act = Flown s } ∷ []) item id None (filter (is_done_of n id) (map (credited_late book (numbers_during (or_zero (seq_of_tail book s.tail)) s.off s.on (span_rows book)) s) (done_rows book)))
late_rows_of_task book doc s n item id b after new shape known number =
    let e : Entry = record { doc = doc; act = Flown s } in
    let numbers : List ℕ = numbers_during (or_zero (seq_of_tail book s.tail)) s.off s.on (span_rows book) in
    rows_of_task (book ++ e ∷ []) n item id after (item_stays book (e ∷ []) n item number)
    ∙ sym (credited_rebased book doc s n item id b new shape known number)
    ∙ sym (ap (rebased (book ++ e ∷ []) item id None)
    (of_mapped (is_done_of n id) (credited_late book numbers s) (same_key book numbers s n id) (done_rows book) ∙ ap (map (credited_late book numbers s)) (rows_of_task book n item id b number)))
