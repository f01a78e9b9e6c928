-- The items of a book by their numbers.
use Rattle.std.proofs.Common.{refl, sym, subst, ap, ◌∙◌, ◌≡◌, ℕ, zero, suc, length, List, [], ◌∷◌, ◌++◌, Bool, true, false, nat_eq, Option, Some, None, add-one}
use Rattle.std.specs.Prelude.{map, slice_get}
use Rattle.std.specs.List.{AllByRecursion}
use Rattle.std.specs.Option.{option_map_or, option_and_then}
use Rattle.std.proofs.lemmas.Bool.Decides.{Decides-eqb}
use Rattle.mx_book.specs.commands.Act.{Act, Entry, Added, Listed, Loaded, Opened, Flown, Fitted, Removed, Released, Deferred, Extended}
use Rattle.mx_book.specs.commands.Shape.{act_shape}
use Rattle.mx_book.specs.declared.commands.item.Item.{Item}
use Rattle.mx_book.specs.declared.commands.item.Item.TheVariants.{Airframe, Component}
use Rattle.mx_book.specs.declared.verdict.Verdict.TheVariants.{New}
use Rattle.mx_book.specs.Book.{IsBook, entry_at}
use Rattle.mx_book.specs.Judge.{judge}
use Rattle.mx_registers.specs.Names.{tail_added, serial_added, item_added, tail_at, serial_at, item_at}
use Rattle.mx_registers.specs.Registers.{next}
use Rattle.mx_registers.specs.kept.Items.{items, items_by}
use Rattle.mx_registers.specs.kept.Totals.{total_changed, total_grown, total_row, total_rows, totals_opened}
use Rattle.mx_registers.proofs.KeptProofs.KnownLemmas.{all_append}
use Rattle.mx_registers.proofs.KeptProofs.CreditLemmas.{all_of}
use Rattle.mx_registers.proofs.KeptProofs.Induction.{of_each_book}
use Rattle.mx_registers.proofs.KeptProofs.TotalRows.{items-more, total_rows-more}

-- ── the item with a number ──

get_kept : (book more : List Entry) (k : ℕ) (e : Entry) → slice_get book k ≡ Some e → slice_get (book ++ more) k ≡ Some e
get_kept [] more k e h = (cc)
get_kept (x ∷ book) more zero e h = h
get_kept (x ∷ book) more (suc k) e h = get_kept book more k e h

get_last : (book : List Entry) (e : Entry) → slice_get (book ++ e ∷ []) (length book) ≡ Some e
get_last [] e = refl
get_last (x ∷ book) e = get_last book e

pub item_at_kept : (book more : List Entry) (n : ℕ) (item : Item) → item_at book n ≡ Some item → item_at (book ++ more) n ≡ Some item
item_at_kept book more zero item h = (cc)
item_at_kept book more (suc k) item h = at (slice_get book k) refl h
  where
    at : (o : Option Entry) → slice_get book k ≡ o → option_and_then (λ (e : Entry). item_added e.act) o ≡ Some item → option_and_then (λ (e : Entry). item_added e.act) (slice_get (book ++ more) k) ≡ Some item
    at None e h = (cc)
    at (Some x) e h = ap (option_and_then (λ (e : Entry). item_added e.act)) (get_kept book more k x e) ∙ h

pub item_at_last : (book : List Entry) (e : Entry) → item_at (book ++ e ∷ []) (next book) ≡ item_added e.act
item_at_last book e = ap (item_at (book ++ e ∷ [])) (add-one (length book)) ∙ ap (option_and_then (λ (e : Entry). item_added e.act)) (get_last book e)

newly_numbered : (book : List Entry) (doc : List ℕ) (act : Act) → AllByRecursion (λ (x : ℕ × Item). item_at (book ++ record { doc = doc; act = act } ∷ []) x.0 ≡ Some x.1) (items_by book act)
newly_numbered book doc (Added a positions) = (item_at_last book (record { doc = doc; act = Added a positions }), tt)
newly_numbered book doc (Listed c) = (item_at_last book (record { doc = doc; act = Listed c }), tt)
newly_numbered book doc _ = tt

abbrev IsNumbered : List Entry → Type 0
IsNumbered book = AllByRecursion (λ (x : ℕ × Item). item_at book x.0 ≡ Some x.1) (items book)

-- each item of a book is the one that the entry with its number added
pub items_numbered : (book : List Entry) → IsBook book → AllByRecursion (λ (x : ℕ × Item). item_at book x.0 ≡ Some x.1) (items book)
items_numbered = of_each_book IsNumbered (λ book e b shape new h.
    subst (AllByRecursion (λ (x : ℕ × Item). item_at (book ++ e ∷ []) x.0 ≡ Some x.1)) (sym (items-more book e))
    (all_append (λ (x : ℕ × Item). item_at (book ++ e ∷ []) x.0 ≡ Some x.1) (items book) (items_by book e.act)
    (all_of (λ (x : ℕ × Item). item_at book x.0 ≡ Some x.1) (λ (x : ℕ × Item). item_at (book ++ e ∷ []) x.0 ≡ Some x.1) (λ x h. item_at_kept book (e ∷ []) x.0 x.1 h) (items book) h)
    (newly_numbered book e.doc e.act))) tt

-- ── totals by the numbers in their rows ──

by_rows : (book : List Entry) (act : Act) (xs : List (ℕ × Item)) → AllByRecursion (λ (x : ℕ × Item). item_at book x.0 ≡ Some x.1) xs → map (λ (x : ℕ × Item). total_grown book act x.1 (total_row book x)) xs ≡ map (total_changed book act) (map (total_row book) xs)
by_rows book act [] h = refl
by_rows book act (x ∷ xs) h =
    ap (λ o. option_map_or (λ (item : Item). total_grown book act item (total_row book x)) o (total_row book x) ∷ map (λ (x : ℕ × Item). total_grown book act x.1 (total_row book x)) xs) (sym h.0)
    ∙ ap (λ l. total_changed book act (total_row book x) ∷ l) (by_rows book act xs h.1)

-- the totals of a book with a new entry, row by row
pub total_rows-changed : (book : List Entry) (doc : List ℕ) (act : Act) → IsBook book → judge book (record { doc = doc; act = act }) ≡ New → act_shape act ≡ true
    → total_rows (book ++ record { doc = doc; act = act } ∷ []) ≡ map (total_changed book act) (total_rows book) ++ totals_opened book act
total_rows-changed book doc act b new shape = total_rows-more book doc act b new shape ∙ ap (λ l. l ++ totals_opened book act) (by_rows book act (items book) (items_numbered book b))

-- ── the numbers of what is at an aircraft ──

tail_by : (act : Act) → (doc : List ℕ) (tail : List ℕ) → item_added act ≡ Some (Airframe tail) → tail_added (record { doc = doc; act = act }) ≡ Some tail
tail_by (Added a positions) doc tail h = cc
tail_by _ doc tail h = (cc)

serial_by : (act : Act) → (doc : List ℕ) (serial : List ℕ) → item_added act ≡ Some (Component serial) → serial_added (record { doc = doc; act = act }) ≡ Some serial
serial_by (Listed c) doc serial h = cc
serial_by _ doc serial h = (cc)

at_number : {X : Type 0} (pick : Entry → Option X) (x : X) (item : Item) → ((e : Entry) → item_added e.act ≡ Some item → pick e ≡ Some x) → (o : Option Entry) → option_and_then (λ (e : Entry). item_added e.act) o ≡ Some item → option_and_then pick o ≡ Some x
at_number pick x item h None e = (cc)
at_number pick x item h (Some y) e = h y e

pub tail_at_item : (book : List Entry) (n : ℕ) (tail : List ℕ) → item_at book n ≡ Some (Airframe tail) → tail_at book n ≡ Some tail
tail_at_item book n tail h = at_number tail_added tail (Airframe tail) (λ e is. tail_by e.act e.doc tail is) (entry_at book n) h

pub serial_at_item : (book : List Entry) (n : ℕ) (serial : List ℕ) → item_at book n ≡ Some (Component serial) → serial_at book n ≡ Some serial
serial_at_item book n serial h = at_number serial_added serial (Component serial) (λ e is. serial_by e.act e.doc serial is) (entry_at book n) h

not_both : (act : Act) (doc a b : List ℕ) → tail_added (record { doc = doc; act = act }) ≡ Some a → serial_added (record { doc = doc; act = act }) ≡ Some b → ⊥
not_both (Added x positions) doc a b h k = (cc)
not_both (Listed c) doc a b h k = (cc)
not_both (Loaded p tasks) doc a b h k = (cc)
not_both (Opened o) doc a b h k = (cc)
not_both (Flown s) doc a b h k = (cc)
not_both (Fitted f) doc a b h k = (cc)
not_both (Removed r) doc a b h k = (cc)
not_both (Released r lines) doc a b h k = (cc)
not_both (Deferred d) doc a b h k = (cc)
not_both (Extended x) doc a b h k = (cc)

no_entry_both : (o : Option Entry) (a b : List ℕ) → option_and_then tail_added o ≡ Some a → option_and_then serial_added o ≡ Some b → ⊥
no_entry_both None a b h k = (cc)
no_entry_both (Some e) a b h k = not_both e.act e.doc a b h k

-- an aircraft and a component have different numbers
pub other_number : (book : List Entry) (n m : ℕ) (tail serial : List ℕ) → tail_at book n ≡ Some tail → serial_at book m ≡ Some serial → nat_eq n m ≡ false
other_number book n m tail serial h k = at (nat_eq n m) refl
  where
    at : (b : Bool) → nat_eq n m ≡ b → b ≡ false
    at true e = absurd (no_entry_both (entry_at book m) tail serial (subst (λ x. tail_at book x ≡ Some tail) ((Decides-eqb n m).0 e) h) k)
    at false e = refl
