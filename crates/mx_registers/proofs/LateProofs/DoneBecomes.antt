-- The table of accomplishments with a new command.
use Rattle.std.proofs.Common.{refl, sym, subst, ap, ◌∙◌, ◌≡◌, ◌≤◌, ℕ, List, [], ◌∷◌, ◌++◌, Bool, true, false, nat_eq, Option, Some, None, append-nil}
use Rattle.std.specs.Prelude.{IsPermutation, filter, is_some, map}
use Rattle.std.specs.List.{flat_map, AllByRecursion}
use Rattle.std.proofs.lemmas.Bool.Decides.{Decides-eqb}
use Rattle.std.proofs.lemmas.List.Concat.{flat_map-append}
use Rattle.std.proofs.lemmas.List.Elements.{filter-append}
use Rattle.std.proofs.lemmas.List.Sorted.{IsPermutation-refl}
use Rattle.mx_base.specs.declared.rows.rows.DoneRow.{DoneRow}
use Rattle.mx_book.specs.commands.Act.{Act, Entry, Flown}
use Rattle.mx_book.specs.commands.Shape.{act_shape, has_shape}
use Rattle.mx_book.specs.declared.commands.item.Item.{Item}
use Rattle.mx_book.specs.declared.commands.item.Item.TheVariants.{Airframe}
use Rattle.mx_book.specs.declared.commands.sector.Sector.{Sector}
use Rattle.mx_book.specs.declared.verdict.Verdict.TheVariants.{New}
use Rattle.mx_book.specs.Book.{IsBook}
use Rattle.mx_book.specs.Judge.{judge}
use Rattle.mx_book.specs.Life.{clock}
use Rattle.mx_book.proofs.JudgeLemmas.{IsBook-entered, both_true}
use Rattle.mx_registers.specs.Names.{has_item, item_at}
use Rattle.mx_registers.specs.kept.Bases.{each_once, tasks_accomplished, tasks_by}
use Rattle.mx_registers.specs.kept.Changes.{sectors_late}
use Rattle.mx_registers.specs.kept.Items.{items}
use Rattle.mx_registers.specs.kept.Totals.{numbers_flown}
use Rattle.mx_book.specs.due.Moved.{moved}
use Rattle.mx_registers.specs.late.Done.{credited_late, done_become, done_by, done_rows, done_rows_at, done_rows_of, is_done_of, late_rows_at, late_rows_of}
use Rattle.mx_registers.proofs.KeptProofs.BaseGrowth.{timely_none_late}
use Rattle.mx_registers.proofs.KeptProofs.ItemNumbers.{items_numbered}
use Rattle.mx_registers.proofs.KeptProofs.NumberLemmas.{unknown_unbased}
use Rattle.mx_registers.proofs.KeptProofs.PutBases.{new_item}
use Rattle.mx_registers.proofs.KeptProofs.ReleaseBases.{all_both}
use Rattle.mx_registers.proofs.KeptProofs.TotalRows.{items-more, items_there}
use Rattle.mx_registers.proofs.LateProofs.DoneAdded.{added_none, rows_added}
use Rattle.mx_registers.proofs.LateProofs.DoneLate.{credited_rebased, done_rows-more, last_base_done}
use Rattle.mx_registers.proofs.LateProofs.DoneMoved.{late_moved}
use Rattle.mx_registers.proofs.LateProofs.DoneOrder.{done_decided}
use Rattle.mx_registers.proofs.LateProofs.DoneTable.{item_stays, none_last, of_item, rows_of_task}

-- ── a command that gives no item a sector late ──

-- no row is of a number that no item has
none_in : (book : List Entry) (n : ℕ) (id : List ℕ) (xs : List (ℕ × Item)) → AllByRecursion (λ (x : ℕ × Item). item_at book x.0 ≡ Some x.1) xs → item_at book n ≡ None → filter (is_done_of n id) (flat_map (done_rows_at book) xs) ≡ []
none_in book n id [] h none = refl
none_in book n id (x ∷ xs) h none =
    filter-append (is_done_of n id) (done_rows_at book x) (flat_map (done_rows_at book) xs)
    ∙ ap (λ l. l ++ filter (is_done_of n id) (flat_map (done_rows_at book) xs)) (of_item book n id false x.0 x.1 (other (nat_eq x.0 n) refl))
    ∙ none_in book n id xs h.1 none
  where
    other : (c : Bool) → nat_eq x.0 n ≡ c → c ≡ false
    other true e = let p : Some x.1 ≡ None = sym h.0 ∙ ap (item_at book) ((Decides-eqb x.0 n).0 e) ∙ none in (cc)
    other false e = refl

-- so the table has none of it
pub no_rows_of : (book : List Entry) (n : ℕ) (id : List ℕ) → IsBook book → item_at book n ≡ None → filter (is_done_of n id) (done_rows book) ≡ []
no_rows_of book n id b none = none_in book n id (items book) (items_numbered book b) none

module _ (book : List Entry) (doc : List ℕ) (act : Act) (n : ℕ) (id : List ℕ) (b : IsBook book) (new : judge book (record { doc = doc; act = act }) ≡ New) (shape : act_shape act ≡ true) (late : (item : Item) → sectors_late book item act ≡ []) (after : IsBook (book ++ record { doc = doc; act = act } ∷ [])) where
  abbrev e : Entry
  e = record { doc = doc; act = act }

  abbrev mine : DoneRow → Bool
  mine row = is_done_of n id row

  with_command : (o : Option Item) → item_at book n ≡ None → item_at (book ++ e ∷ []) n ≡ o → filter mine (done_rows (book ++ e ∷ [])) ≡ []
  with_command None none h = no_rows_of (book ++ e ∷ []) n id after h
  with_command (Some item) none h =
      let absent = new_item book doc n id b act new shape late after item none h in
      rows_of_task (book ++ e ∷ []) n item id after h
      ∙ none_last (done_rows_of (book ++ e ∷ []) n item id) (ap is_some (last_base_done (book ++ e ∷ []) n item id ∙ unknown_unbased book e item id b new absent))

  pub says_same : (o : Option Item) → item_at book n ≡ o → filter mine (done_rows book ++ done_by book act) ≡ filter mine (done_rows (book ++ e ∷ []))
  says_same (Some item) h =
      filter-append mine (done_rows book) (done_by book act)
      ∙ ap (λ l. l ++ filter mine (done_by book act)) (rows_of_task book n item id b h)
      ∙ sym (rows_added book doc act n item id b new shape h (late item))
      ∙ sym (rows_of_task (book ++ e ∷ []) n item id after (item_stays book (e ∷ []) n item h))
  says_same None h =
      filter-append mine (done_rows book) (done_by book act)
      ∙ ap (λ l. l ++ filter mine (done_by book act)) (no_rows_of book n id b h)
      ∙ added_none book n id doc act h new
      ∙ sym (with_command (item_at (book ++ e ∷ []) n) h refl)

added : (book : List Entry) (doc : List ℕ) (act : Act) → IsBook book → judge book (record { doc = doc; act = act }) ≡ New → has_shape (record { doc = doc; act = act }) ≡ true → ((item : Item) → sectors_late book item act ≡ [])
    → IsPermutation (done_rows book ++ done_by book act) (done_rows (book ++ record { doc = doc; act = act } ∷ []))
added book doc act b new shape late =
    let e : Entry = record { doc = doc; act = act } in
    done_decided (done_rows book ++ done_by book act) (done_rows (book ++ e ∷ []))
    (λ n id. says_same book doc act n id b new (both_true _ _ shape).0 late (IsBook-entered book e b shape new) (item_at book n) refl)

-- ── a sector ──

same_flat : {X Y : Type 0} (f g : X → List Y) (P : X → Type 0) → ((x : X) → P x → f x ≡ g x) → (xs : List X) → AllByRecursion P xs → flat_map f xs ≡ flat_map g xs
same_flat f g P same [] h = refl
same_flat f g P same (x ∷ xs) h = ap (λ l. l ++ flat_map f xs) (same x h.0) ∙ ap (λ l. g x ++ l) (same_flat f g P same xs h.1)

always : {X : Type 0} (xs : List X) → AllByRecursion (λ (x : X). Unit {0}) xs
always [] = tt
always (x ∷ xs) = (tt, always xs)

tasks_kept : (book : List Entry) (doc : List ℕ) (s : Sector) (item : Item) → tasks_accomplished (book ++ record { doc = doc; act = Flown s } ∷ []) item ≡ tasks_accomplished book item
tasks_kept book doc s item =
    ap each_once (flat_map-append (λ (x : Entry). tasks_by item x.act) book (record { doc = doc; act = Flown s } ∷ []) ∙ append-nil (flat_map (λ (x : Entry). tasks_by item x.act) book))

-- the rows with a sector, where those of each task of each item are known
with_sector : (book : List Entry) (doc : List ℕ) (s : Sector) (rows : ℕ × Item → List ℕ → List DoneRow) → IsBook book
    → ((x : ℕ × Item) → (has_item book x.1 ≡ true) × (item_at book x.0 ≡ Some x.1) → (id : List ℕ) → done_rows_of (book ++ record { doc = doc; act = Flown s } ∷ []) x.0 x.1 id ≡ rows x id)
    → done_rows (book ++ record { doc = doc; act = Flown s } ∷ []) ≡ flat_map (λ (x : ℕ × Item). flat_map (rows x) (tasks_accomplished book x.1)) (items book)
with_sector book doc s rows b each =
    let e : Entry = record { doc = doc; act = Flown s } in
    ap (flat_map (done_rows_at (book ++ e ∷ []))) (items-more book e ∙ append-nil (items book))
    ∙ same_flat (done_rows_at (book ++ e ∷ [])) (λ (x : ℕ × Item). flat_map (rows x) (tasks_accomplished book x.1)) (λ (x : ℕ × Item). (has_item book x.1 ≡ true) × (item_at book x.0 ≡ Some x.1))
    (λ x h.
    ap (flat_map (done_rows_of (book ++ e ∷ []) x.0 x.1)) (tasks_kept book doc s x.1)
    ∙ same_flat (done_rows_of (book ++ e ∷ []) x.0 x.1) (rows x) (λ (id : List ℕ). Unit {0}) (λ id _. each x h id) (tasks_accomplished book x.1) (always (tasks_accomplished book x.1)))
    (items book) (all_both (λ (x : ℕ × Item). has_item book x.1 ≡ true) (λ (x : ℕ × Item). item_at book x.0 ≡ Some x.1) (λ (x : ℕ × Item). (has_item book x.1 ≡ true) × (item_at book x.0 ≡ Some x.1)) (λ x h k. (h, k)) (items book) (items_there book b) (items_numbered book b))

-- a new sector credits the rows that it is due to, and moves due and base of each behind them
pub late_rows : (book : List Entry) (doc : List ℕ) (s : Sector) → IsBook book → judge book (record { doc = doc; act = Flown s }) ≡ New → act_shape (Flown s) ≡ true
    → done_rows (book ++ record { doc = doc; act = Flown s } ∷ []) ≡ flat_map (late_rows_at book s (done_rows book)) (items book)
late_rows book doc s b new shape =
    with_sector book doc s (λ x id. late_rows_of book s (done_rows book) x.0 id) b
    (λ x h id.
    sym (credited_rebased book doc s x.0 x.1 id b new shape h.0 h.1)
    ∙ late_moved book doc s (numbers_flown book s) x.0 x.1 id b
    ∙ ap (λ rows. moved None None (map (credited_late book (numbers_flown book s) s) rows)) (sym (rows_of_task book x.0 x.1 id b h.1)))

-- the accomplishments with a new command, whichever it is
pub done_with_command : (book : List Entry) (doc : List ℕ) (act : Act) → IsBook book → judge book (record { doc = doc; act = act }) ≡ New → has_shape (record { doc = doc; act = act }) ≡ true
    → IsPermutation (done_become book (record { doc = doc; act = act }) (done_rows book)) (done_rows (book ++ record { doc = doc; act = act } ∷ []))
done_with_command book doc (Flown s) b new shape =
    subst (λ (rows : List DoneRow). IsPermutation (done_become book (record { doc = doc; act = Flown s }) (done_rows book)) rows)
    (append-nil (flat_map (late_rows_at book s (done_rows book)) (items book)) ∙ sym (late_rows book doc s b new (both_true _ _ shape).0))
    (IsPermutation-refl (done_become book (record { doc = doc; act = Flown s }) (done_rows book)))
done_with_command book doc act b new shape = added book doc act b new shape (λ item. refl)

-- a sector that takes off by the clock of its airframe changes none
pub done_in_order : (book : List Entry) (doc : List ℕ) (s : Sector) → IsBook book → judge book (record { doc = doc; act = Flown s }) ≡ New → act_shape (Flown s) ≡ true → clock book (Airframe s.tail) ≤ s.off
    → done_rows (book ++ record { doc = doc; act = Flown s } ∷ []) ≡ done_rows book
done_in_order book doc s b new shape by =
    with_sector book doc s (λ x id. done_rows_of book x.0 x.1 id) b
    (λ x h id. done_rows-more book doc (Flown s) x.0 x.1 id b new shape (timely_none_late book s x.1 b shape by) ∙ append-nil (done_rows_of book x.0 x.1 id))
