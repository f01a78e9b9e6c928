-- What was accomplished in a book: when, on what, and by which kind's programme.
use Rattle.std.proofs.Common.{arith, refl, sym, subst, ap, ◌∙◌, ◌≡◌, ℕ, ◌+◌, ◌≤◌, length, List, [], ◌∷◌, ◌++◌, Bool, true, false, cond, ◌&&◌, ◌||◌, Option, Some, None, append_assoc, append-nil, length-append}
use Rattle.std.specs.Prelude.{filter, is_some, map, not}
use Rattle.std.specs.List.{list_any, AllByRecursion}
use Rattle.std.specs.Option.{option_map, option_map_or}
use Rattle.mx_book.specs.commands.Act.{Act, Entry, Opened, Released}
use Rattle.mx_book.specs.commands.Same.{same_text, same_item}
use Rattle.mx_book.specs.commands.Shape.{has_shape}
use Rattle.mx_book.specs.declared.commands.aircraft.Aircraft.{Aircraft}
use Rattle.mx_book.specs.declared.commands.item.Item.{Item}
use Rattle.mx_book.specs.declared.commands.item.Item.TheVariants.{Airframe, Component}
use Rattle.mx_book.specs.declared.commands.opening.Opening.{Opening}
use Rattle.mx_book.specs.declared.commands.release.Line.{Line}
use Rattle.mx_book.specs.declared.commands.release.Line.TheVariants.{Done, Rectified}
use Rattle.mx_book.specs.declared.commands.release.Place.{Place}
use Rattle.mx_book.specs.declared.commands.release.Place.TheVariants as places
use Rattle.mx_book.specs.declared.commands.release.Release.{Release}
use Rattle.mx_book.proofs.CommandsProofs.SameLemmas.{text_same}
use Rattle.mx_book.specs.declared.verdict.Verdict.TheVariants.{New}
use Rattle.mx_book.specs.Register.{aircraft}
use Rattle.mx_book.specs.Book.{IsBook, is_new}
use Rattle.mx_book.specs.Judge.{judge, is_at, item_at, line_of_item_elsewhere}
use Rattle.mx_book.specs.Span.{Span}
use Rattle.mx_book.specs.Life.{latest}
use Rattle.mx_book.specs.Programme.{is_done, kind_at}
use Rattle.mx_book.specs.Base.{Accomplishment, Stated, DoneIn, accomplished_by, accomplished_from, accomplishments}
use Rattle.mx_book.proofs.JudgeLemmas.{IsBook-entered}
use Rattle.mx_registers.proofs.NewLemmas.{has_line, HasLines, released_is_known}
use Rattle.mx_registers.specs.kept.Changes.{clock_of_place, moments_given}
use Rattle.mx_registers.proofs.KeptProofs.PlaceLemmas.{fitted_kept}
use Rattle.mx_registers.proofs.KeptProofs.ClockLemmas.{clock-more}
use Rattle.mx_registers.proofs.KeptProofs.CreditLemmas.{all_of}
use Rattle.mx_registers.proofs.KeptProofs.KnownLemmas.{aircraft_kept, item_kept, all_append}
use Rattle.mx_registers.proofs.KeptProofs.Induction.{of_each_book}
use Rattle.mx_registers.proofs.KeptProofs.PlaceClocks.{place_clock_grows, place_by_item, self_latest}
use Rattle.mx_registers.proofs.KeptProofs.JudgedLemmas.{new-at_place}
use Rattle.mx_registers.specs.Names.{has_item}

-- ── the accomplishments of a book with one entry more ──

accomplished_from-more : (k : ℕ) (item : Item) (id : List ℕ) (book : List Entry) (e : Entry)
    → accomplished_from k item id (book ++ e ∷ []) ≡ accomplished_from k item id book ++ accomplished_by (k + length book) item id e.act
accomplished_from-more k item id [] e =
    let same : k ≡ k + 0 = omega arith in append-nil (accomplished_by k item id e.act) ∙ ap (λ n. accomplished_by n item id e.act) same
accomplished_from-more k item id (x ∷ book) e =
    let same : k + 1 + length book ≡ k + length (x ∷ book) = omega arith in
    ap (λ l. accomplished_by k item id x.act ++ l) (accomplished_from-more (k + 1) item id book e ∙ ap (λ n. accomplished_from (k + 1) item id book ++ accomplished_by n item id e.act) same)
    ∙ sym (append_assoc (accomplished_by k item id x.act) (accomplished_from (k + 1) item id book) (accomplished_by (k + length (x ∷ book)) item id e.act))

-- one entry more accomplishes tasks behind those that were accomplished
pub accomplishments-more : (book : List Entry) (e : Entry) (item : Item) (id : List ℕ) → accomplishments (book ++ e ∷ []) item id ≡ accomplishments book item id ++ accomplished_by (length book + 1) item id e.act
accomplishments-more book e item id =
    let same : 1 + length book ≡ length book + 1 = omega arith in
    accomplished_from-more 1 item id book e ∙ ap (λ n. accomplishments book item id ++ accomplished_by n item id e.act) same

-- ── a line that certifies a task ──

pub item_same : (a b : Item) → same_item a b ≡ true → a ≡ b
item_same (Airframe a) (Airframe b) h = ap (λ (t : List ℕ). Airframe t) ((text_same a b).0 h)
item_same (Component a) (Component b) h = ap (λ (t : List ℕ). Component t) ((text_same a b).0 h)
item_same (Airframe a) (Component b) h = (cc)
item_same (Component a) (Airframe b) h = (cc)

pub both : (p q : Bool) → p && q ≡ true → (p ≡ true) × (q ≡ true)
both true true h = (refl, refl)
both true false h = (cc)
both false q h = (cc)

pub neither : (p q : Bool) → p || q ≡ false → (p ≡ false) × (q ≡ false)
neither true q h = (cc)
neither false q h = (refl, h)

not_false : (b : Bool) → not b ≡ false → b ≡ true
not_false true h = refl
not_false false h = (cc)

-- the item is at the place and in the book
abbrev pub IsThere : List Entry → Place → Item → Type 0
IsThere book place item = (is_at book place item ≡ true) × (has_item book item ≡ true)

line_there : (book : List Entry) (place : Place) (item : Item) (id : List ℕ) (line : Line) → is_done item id line ≡ true → line_of_item_elsewhere book place line ≡ false → has_line book line ≡ true → IsThere book place item
line_there book place item id (Done done task) h e k =
    let same = item_same done item (both (same_item done item) (same_text task id) h).0 in
    (ap (is_at book place) (sym same) ∙ not_false (is_at book place done) e, ap (has_item book) (sym same) ∙ k)
line_there book place item id (Rectified doc) h e k = (cc)

lines_there : (book : List Entry) (place : Place) (item : Item) (id : List ℕ) (lines : List Line) → list_any (is_done item id) lines ≡ true → list_any (line_of_item_elsewhere book place) lines ≡ false → HasLines book lines → IsThere book place item
lines_there book place item id [] h e k = (cc)
lines_there book place item id (line ∷ lines) h e k =
    let here = neither (line_of_item_elsewhere book place line) (list_any (line_of_item_elsewhere book place) lines) e in
    at (is_done item id line) refl h here.0 (λ rest. lines_there book place item id lines rest here.1 k.1)
  where
    at : (b : Bool) → is_done item id line ≡ b → b || list_any (is_done item id) lines ≡ true → line_of_item_elsewhere book place line ≡ false → (list_any (is_done item id) lines ≡ true → IsThere book place item) → IsThere book place item
    at true f h e rest = line_there book place item id line f e k.0
    at false f h e rest = rest h

-- an item on which a new release certifies a task is at its place and in the book
pub done_there : (book : List Entry) (doc : List ℕ) (r : Release) (lines : List Line) (item : Item) (id : List ℕ) → judge book (record { doc = doc; act = Released r lines }) ≡ New → list_any (is_done item id) lines ≡ true → IsThere book r.place item
done_there book doc r lines item id new h =
    lines_there book r.place item id lines h (new-at_place book doc r lines new)
    (released_is_known book doc r lines (ap is_new new)).1

-- ── what a book keeps of an accomplishment ──

-- a release at which a task of an item was done: by the clock of the item's place, among the entries, of a kind and of an item that the book has
pub record IsDoneBy (book : List Entry) (item : Item) (k : ℕ) (r : Release) : Type 0 where
  pub timely : r.moment ≤ clock_of_place book item
  pub entered : k ≤ length book
  pub kind_known : is_some (kind_at book r.place) ≡ true
  pub item_known : has_item book item ≡ true

abbrev pub IsKept : List Entry → Item → Accomplishment → Type 0
IsKept book item (Stated o) = Unit {0}
IsKept book item (DoneIn k r) = IsDoneBy book item k r

some_map : {X Y : Type 0} (f : X → Y) (o : Option X) → is_some (option_map f o) ≡ is_some o
some_map f None = refl
some_map f (Some x) = refl

-- the kind at a place stays
pub kind_kept : (book more : List Entry) (place : Place) → is_some (kind_at book place) ≡ true → kind_at (book ++ more) place ≡ kind_at book place
kind_kept book more (places.Aircraft tail) h = ap (option_map (λ (a : Aircraft). a.kind)) (aircraft_kept book more tail (sym (some_map (λ (a : Aircraft). a.kind) (aircraft book tail)) ∙ h))
kind_kept book more (places.Shop serial kind) h = refl

kind_of_place : (book : List Entry) (place : Place) → has_item book (item_at place) ≡ true → is_some (kind_at book place) ≡ true
kind_of_place book (places.Aircraft tail) h = some_map (λ (a : Aircraft). a.kind) (aircraft book tail) ∙ h
kind_of_place book (places.Shop serial kind) h = refl

-- a release gives the clock of its place its moment
release_moment : (before : List Entry) (place : Place) (m : ℕ) (lines : List Line) → latest (moments_given before (item_at place) (Released (record { place = place; moment = m }) lines)) ≡ m
release_moment before (places.Aircraft tail) m lines = self_latest tail m
release_moment before (places.Shop serial kind) m lines = self_latest serial m

-- a release leaves items where they are
pub still_at : (book : List Entry) (doc : List ℕ) (r : Release) (lines : List Line) (place : Place) (item : Item) → is_at (book ++ record { doc = doc; act = Released r lines } ∷ []) place item ≡ is_at book place item
still_at book doc r lines (places.Aircraft tail) (Airframe t) = refl
still_at book doc r lines (places.Aircraft tail) (Component serial) = ap (λ (o : Option Span). option_map_or (λ t. same_text t tail) (option_map (λ (s : Span). s.tail) o) false) (fitted_kept serial book (record { doc = doc; act = Released r lines }) refl)
still_at book doc r lines (places.Shop s kind) (Airframe t) = refl
still_at book doc r lines (places.Shop s kind) (Component serial) = refl

-- the kind of the place of a new release is known
pub kind_known : (book : List Entry) (doc : List ℕ) (r : Release) (lines : List Line) → judge book (record { doc = doc; act = Released r lines }) ≡ New → is_some (kind_at book r.place) ≡ true
kind_known book doc r lines new = kind_of_place book r.place (released_is_known book doc r lines (ap is_new new)).0

-- a line of a new release is kept
newly_done : (book : List Entry) (doc : List ℕ) (r : Release) (lines : List Line) (item : Item) (id : List ℕ) → IsBook book → has_shape (record { doc = doc; act = Released r lines }) ≡ true
    → judge book (record { doc = doc; act = Released r lines }) ≡ New → list_any (is_done item id) lines ≡ true → IsDoneBy (book ++ record { doc = doc; act = Released r lines } ∷ []) item (length book + 1) r
newly_done book doc r lines item id b shape new h =
    let e : Entry = record { doc = doc; act = Released r lines } in
    let there = done_there book doc r lines item id new h in
    let kind = kind_known book doc r lines new in
    let after = IsBook-entered book e b shape new in
    let by = place_by_item (book ++ e ∷ []) r.place item after (still_at book doc r lines r.place item ∙ there.0) in
    let more = clock-more book e (item_at r.place) b in
    let given = release_moment book r.place r.moment lines in
    record {
      timely = omega arith;
      entered = omega (arith, length-append book (e ∷ []));
      kind_known = ap is_some (kind_kept book (e ∷ []) r.place kind) ∙ kind;
      item_known = item_kept book (e ∷ []) item there.1;
    }

each_line : (P : Accomplishment → Type 0) (k : ℕ) (r : Release) (test : Line → Bool) (lines : List Line) → (list_any test lines ≡ true → P (DoneIn k r)) → AllByRecursion P (map (λ (line : Line). DoneIn k r) (filter test lines))
each_line P k r test [] h = tt
each_line P k r test (line ∷ lines) h = at (test line) h (each_line P k r test lines)
  where
    at : (b : Bool) → (b || list_any test lines ≡ true → P (DoneIn k r)) → ((list_any test lines ≡ true → P (DoneIn k r)) → AllByRecursion P (map (λ (line : Line). DoneIn k r) (filter test lines)))
        → AllByRecursion P (map (λ (line : Line). DoneIn k r) (cond b (line ∷ filter test lines) (filter test lines)))
    at true h rest = (h refl, rest (λ _. h refl))
    at false h rest = rest h

stated_kept : (P : Accomplishment → Type 0) (o : Opening) (p q : Bool) → P (Stated o) → AllByRecursion P (cond p (cond q (Stated o ∷ []) []) [])
stated_kept P o true true h = (h, tt)
stated_kept P o true false h = tt
stated_kept P o false q h = tt

-- what a new entry accomplishes is kept
newly_kept : (book : List Entry) (doc : List ℕ) (act : Act) (item : Item) (id : List ℕ) → IsBook book → has_shape (record { doc = doc; act = act }) ≡ true → judge book (record { doc = doc; act = act }) ≡ New
    → AllByRecursion (IsKept (book ++ record { doc = doc; act = act } ∷ []) item) (accomplished_by (length book + 1) item id act)
newly_kept book doc (Opened o) item id b shape new = stated_kept (IsKept (book ++ record { doc = doc; act = Opened o } ∷ []) item) o (same_item o.item item) (same_text o.task id) tt
newly_kept book doc (Released r lines) item id b shape new =
    each_line (IsKept (book ++ record { doc = doc; act = Released r lines } ∷ []) item) (length book + 1) r (is_done item id) lines (newly_done book doc r lines item id b shape new)
newly_kept book doc _ item id b shape new = tt

-- what was kept stays so
kept_on : (book : List Entry) (e : Entry) (item : Item) → IsBook book → judge book e ≡ New → (a : Accomplishment) → IsKept book item a → IsKept (book ++ e ∷ []) item a
kept_on book e item b new (Stated o) h = tt
kept_on book e item b new (DoneIn k r) h =
    let grows = place_clock_grows book e item b new in
    record {
      timely = omega arith;
      entered = omega (arith, length-append book (e ∷ []));
      kind_known = ap is_some (kind_kept book (e ∷ []) r.place h.kind_known) ∙ h.kind_known;
      item_known = item_kept book (e ∷ []) item h.item_known;
    }

abbrev KeepsAll : List Entry → Type 0
KeepsAll book = (item : Item) (id : List ℕ) → AllByRecursion (IsKept book item) (accomplishments book item id)

-- each accomplishment of a book is kept there
pub all_kept : (book : List Entry) → IsBook book → (item : Item) (id : List ℕ) → AllByRecursion (IsKept book item) (accomplishments book item id)
all_kept = of_each_book KeepsAll (λ book e b shape new kept item id.
    subst (AllByRecursion (IsKept (book ++ e ∷ []) item)) (sym (accomplishments-more book e item id))
    (all_append (IsKept (book ++ e ∷ []) item) (accomplishments book item id) (accomplished_by (length book + 1) item id e.act)
    (all_of (IsKept book item) (IsKept (book ++ e ∷ []) item) (kept_on book e item b new) (accomplishments book item id) (kept item id))
    (newly_kept book e.doc e.act item id b shape new))) (λ item id. tt)
