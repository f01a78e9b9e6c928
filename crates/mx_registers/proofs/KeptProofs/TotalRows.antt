-- The totals of a book with one command more.
use Rattle.std.proofs.Common.{arith, refl, sym, subst, ap, ◌∙◌, ◌≡◌, ℕ, List, [], ◌∷◌, ◌++◌, Bool, true, false, cond, ◌&&◌, Option, Some, None}
use Rattle.std.specs.Prelude.{find, filter, is_none, is_some, map}
use Rattle.std.specs.List.{AllByRecursion}
use Rattle.std.specs.Option.{option_map, option_map_or, option_or}
use Rattle.std.proofs.lemmas.List.{map-append}
use Rattle.mx_base.specs.declared.amounts.Use.{Use}
use Rattle.mx_book.specs.commands.Act.{Act, Entry, Added, Listed, Loaded, Opened, Flown, Fitted, Removed, Released, Deferred, Extended}
use Rattle.mx_book.specs.commands.Same.{same_text}
use Rattle.mx_book.specs.commands.Shape.{act_shape}
use Rattle.mx_book.specs.declared.commands.aircraft.Aircraft.{Aircraft}
use Rattle.mx_book.specs.declared.commands.component.Component.{Component as ComponentAdded}
use Rattle.mx_book.specs.declared.commands.item.Item.{Item}
use Rattle.mx_book.specs.declared.commands.item.Item.TheVariants.{Airframe, Component}
use Rattle.mx_book.specs.declared.commands.release.Place.{Place}
use Rattle.mx_book.specs.declared.commands.release.Place.TheVariants as places
use Rattle.mx_book.proofs.CommandsProofs.SameLemmas.{text_same}
use Rattle.mx_book.specs.declared.verdict.Verdict.TheVariants.{New}
use Rattle.mx_book.specs.Register.{aircraft, component}
use Rattle.mx_book.specs.Book.{IsBook, is_new}
use Rattle.mx_book.specs.Judge.{judge, item_at}
use Rattle.mx_book.specs.Span.{Span, spans, fitted}
use Rattle.mx_book.specs.Life.{latest, if_same, if_at_aircraft, if_in_shop, clock, credited, has_landed_by, opening_of, use_after, life_now, use_or_none}
use Rattle.mx_registers.specs.Registers.{next}
use Rattle.mx_registers.proofs.NewLemmas.{added_is_unknown, listed_is_unknown, flown_is_known, fitted_is_known, removed_is_known, deferred_is_known, released_is_known}
use Rattle.mx_registers.proofs.RegisterLemmas.{gives-more}
use Rattle.mx_base.specs.declared.rows.rows.TotalRow.{TotalRow}
use Rattle.mx_registers.specs.kept.Changes.{moments_given, sectors_given}
use Rattle.mx_registers.specs.kept.Items.{items, items_by}
use Rattle.mx_registers.specs.kept.Totals.{total_grown, total_row, total_rows, totals_opened}
use Rattle.mx_registers.proofs.KeptProofs.ClockLemmas.{clock-more}
use Rattle.mx_registers.proofs.KeptProofs.CreditLemmas.{all_of}
use Rattle.mx_registers.proofs.KeptProofs.KnownLemmas.{aircraft-more, component-more, item_kept, all_append, other_name, spans_placed}
use Rattle.mx_registers.proofs.KeptProofs.LifeGrowth.{life_now-more, opening_known}
use Rattle.mx_registers.proofs.KeptProofs.Induction.{of_each_book}
use Rattle.mx_registers.specs.Names.{has_item}

-- ── the items of a book are in it ──

pub items-more : (book : List Entry) (e : Entry) → items (book ++ e ∷ []) ≡ items book ++ items_by book e.act
items-more book e = gives-more (λ before x. items_by before x.act) [] book e

found_first : {X : Type 0} (x : X) (b : Bool) → b ≡ true → cond b (Some x) None ≡ Some x
found_first x true h = refl
found_first x false h = (cc)

some_last : {X : Type 0} (o : Option X) (x : X) → is_some (option_or o (Some x)) ≡ true
some_last None x = refl
some_last (Some y) x = refl

added_there : (book : List Entry) (doc : List ℕ) (act : Act) → AllByRecursion (λ (x : ℕ × Item). has_item (book ++ record { doc = doc; act = act } ∷ []) x.1 ≡ true) (items_by book act)
added_there book doc (Added a positions) =
    (ap is_some (aircraft-more book (record { doc = doc; act = Added a positions } ∷ []) a.tail ∙ ap (option_or (aircraft book a.tail)) (found_first a (same_text a.tail a.tail) ((text_same a.tail a.tail).1 refl))) ∙ some_last (aircraft book a.tail) a, tt)
added_there book doc (Listed c) =
    (ap is_some (component-more book (record { doc = doc; act = Listed c } ∷ []) c.serial ∙ ap (option_or (component book c.serial)) (found_first c (same_text c.serial c.serial) ((text_same c.serial c.serial).1 refl))) ∙ some_last (component book c.serial) c, tt)
added_there book doc _ = tt

abbrev HasItems : List Entry → Type 0
HasItems book = AllByRecursion (λ (x : ℕ × Item). has_item book x.1 ≡ true) (items book)

-- each item of a book is in it
pub items_there : (book : List Entry) → IsBook book → AllByRecursion (λ (x : ℕ × Item). has_item book x.1 ≡ true) (items book)
items_there = of_each_book HasItems (λ book e b shape new there.
    subst (AllByRecursion (λ (x : ℕ × Item). has_item (book ++ e ∷ []) x.1 ≡ true)) (sym (items-more book e))
    (all_append (λ (x : ℕ × Item). has_item (book ++ e ∷ []) x.1 ≡ true) (items book) (items_by book e.act)
    (all_of (λ (x : ℕ × Item). has_item book x.1 ≡ true) (λ (x : ℕ × Item). has_item (book ++ e ∷ []) x.1 ≡ true) (λ x h. item_kept book (e ∷ []) x.1 h) (items book) there)
    (added_there book e.doc e.act))) tt

-- ── an item that is not in the book has no clock there ──

none_of : (known : List ℕ → Bool) (a b : List ℕ) (m : ℕ) → known a ≡ true → known b ≡ false → if_same a b m ≡ []
none_of known a b m h k = ap (λ c. cond c (m ∷ []) []) (other_name known a b h k)

pub still_absent : (book more : List Entry) (item : Item) → has_item (book ++ more) item ≡ false → has_item book item ≡ false
still_absent book more item h = at (has_item book item) refl
  where
    at : (b : Bool) → has_item book item ≡ b → b ≡ false
    at true f = let k = item_kept book more item f in (cc)
    at false f = refl

fitted_airframe : (o : Option Span) (tail : List ℕ) (known : List ℕ → Bool) → option_map_or (λ (s : Span). known s.tail) o true ≡ true → known tail ≡ false → option_map_or (λ t. same_text t tail) (option_map (λ (s : Span). s.tail) o) false ≡ false
fitted_airframe None tail known h k = refl
fitted_airframe (Some s) tail known h k = other_name known s.tail tail h k

-- the moments that a new entry gives are of items that are in the book with it
none_given : (book : List Entry) (doc : List ℕ) (act : Act) (item : Item) → IsBook book → judge book (record { doc = doc; act = act }) ≡ New → has_item (book ++ record { doc = doc; act = act } ∷ []) item ≡ false → has_item book item ≡ false
    → ((serial : List ℕ) → option_map_or (λ (s : Span). is_some (aircraft book s.tail)) (fitted book serial) true ≡ true) → moments_given book item act ≡ []
none_given book doc (Added a positions) (Airframe tail) b new h k there =
    none_of (λ (t : List ℕ). is_some (aircraft (book ++ record { doc = doc; act = Added a positions } ∷ []) t)) a.tail tail a.as_of (added_there book doc (Added a positions)).0 h
none_given book doc (Flown s) (Airframe tail) b new h k there = none_of (λ (t : List ℕ). is_some (aircraft book t)) s.tail tail s.on (flown_is_known book doc s (ap is_new new)) k
none_given book doc (Fitted f) (Airframe tail) b new h k there = none_of (λ (t : List ℕ). is_some (aircraft book t)) f.tail tail f.moment (fitted_is_known book doc f (ap is_new new)).0 k
none_given book doc (Removed r) (Airframe tail) b new h k there =
    ap (λ c. cond c (r.moment ∷ []) []) (fitted_airframe (fitted book r.serial) tail (λ (t : List ℕ). is_some (aircraft book t)) (there r.serial) k)
none_given book doc (Released r lines) (Airframe tail) b new h k there = at r.place (released_is_known book doc r lines (ap is_new new)).0
  where
    at : (place : Place) → has_item book (item_at place) ≡ true → if_at_aircraft tail place r.moment ≡ []
    at (places.Aircraft t) e = none_of (λ (t : List ℕ). is_some (aircraft book t)) t tail r.moment e k
    at (places.Shop s kind) e = refl
none_given book doc (Deferred d) (Airframe tail) b new h k there = none_of (λ (t : List ℕ). is_some (aircraft book t)) d.tail tail d.moment (deferred_is_known book doc d (ap is_new new)) k
none_given book doc (Listed c) (Airframe tail) b new h k there = refl
none_given book doc (Loaded p tasks) (Airframe tail) b new h k there = refl
none_given book doc (Opened o) (Airframe tail) b new h k there = refl
none_given book doc (Extended x) (Airframe tail) b new h k there = refl
none_given book doc (Listed c) (Component serial) b new h k there =
    none_of (λ (t : List ℕ). is_some (component (book ++ record { doc = doc; act = Listed c } ∷ []) t)) c.serial serial c.as_of (added_there book doc (Listed c)).0 h
none_given book doc (Fitted f) (Component serial) b new h k there = none_of (λ (t : List ℕ). is_some (component book t)) f.serial serial f.moment (fitted_is_known book doc f (ap is_new new)).1 k
none_given book doc (Removed r) (Component serial) b new h k there = none_of (λ (t : List ℕ). is_some (component book t)) r.serial serial r.moment (removed_is_known book doc r (ap is_new new)) k
none_given book doc (Released r lines) (Component serial) b new h k there = at r.place (released_is_known book doc r lines (ap is_new new)).0
  where
    at : (place : Place) → has_item book (item_at place) ≡ true → if_in_shop serial place r.moment ≡ []
    at (places.Aircraft t) e = refl
    at (places.Shop s kind) e = none_of (λ (t : List ℕ). is_some (component book t)) s serial r.moment e k
none_given book doc (Added a positions) (Component serial) b new h k there = refl
none_given book doc (Loaded p tasks) (Component serial) b new h k there = refl
none_given book doc (Opened o) (Component serial) b new h k there = refl
none_given book doc (Flown s) (Component serial) b new h k there = refl
none_given book doc (Deferred d) (Component serial) b new h k there = refl
none_given book doc (Extended x) (Component serial) b new h k there = refl

found_all : (known p : Span → Bool) (xs : List Span) → AllByRecursion (λ x. known x ≡ true) xs → option_map_or known (find p xs) true ≡ true
found_all known p [] h = refl
found_all known p (x ∷ xs) h = at (p x) (found_all known p xs h.1)
  where
    at : (b : Bool) → option_map_or known (find p xs) true ≡ true → option_map_or known (cond b (Some x) (find p xs)) true ≡ true
    at true rest = h.0
    at false rest = rest

abbrev HasNoClock : List Entry → Type 0
HasNoClock book = (item : Item) → has_item book item ≡ false → clock book item ≡ 0

unknown_from : (book : List Entry) (e : Entry) → IsBook book → judge book e ≡ New → HasNoClock book → HasNoClock (book ++ e ∷ [])
unknown_from book e b new none item h =
    let absent = still_absent book (e ∷ []) item h in
    let before = none item absent in
    let given = ap latest (none_given book e.doc e.act item b new h absent (λ serial. found_all (λ (s : Span). is_some (aircraft book s.tail)) (λ (s : Span). same_text s.serial serial && is_none s.to) (spans book) (spans_placed book b))) in
    let more = clock-more book e item b in omega arith

no_clock : (item : Item) → clock [] item ≡ 0
no_clock (Airframe tail) = omega arith
no_clock (Component serial) = refl

-- the clock of an item that is not in a book is 0
pub unknown_clock : (book : List Entry) → IsBook book → (item : Item) → has_item book item ≡ false → clock book item ≡ 0
unknown_clock = of_each_book HasNoClock (λ book e b shape new none. unknown_from book e b new none) (λ item h. no_clock item)

-- ── the totals ──

grown_life : (o : Option Use) (p : Option Use) (f : Use → Use) → is_some o ≡ true → use_or_none (option_or (option_map f o) p) ≡ f (use_or_none o)
grown_life None p f h = (cc)
grown_life (Some u) p f h = refl

life_known : (book : List Entry) (item : Item) → is_some (life_now book item) ≡ has_item book item
life_known book item = some_map (use_after (filter (has_landed_by None) (credited book item))) (opening_of book item) ∙ opening_known book item
  where
    some_map : {X Y : Type 0} (f : X → Y) (o : Option X) → is_some (option_map f o) ≡ is_some o
    some_map f None = refl
    some_map f (Some x) = refl

abbrev row_of : ℕ → Use → ℕ → TotalRow
row_of n life clock = record { item = n; life = life; clock = clock }

-- the total of an item that the book has grows by what the entry gives
total_kept : (book : List Entry) (doc : List ℕ) (act : Act) (x : ℕ × Item) → IsBook book → judge book (record { doc = doc; act = act }) ≡ New → act_shape act ≡ true → has_item book x.1 ≡ true
    → total_row (book ++ record { doc = doc; act = act } ∷ []) x ≡ total_grown book act x.1 (total_row book x)
total_kept book doc act x b new shape known =
    let e : Entry = record { doc = doc; act = act } in
    ap (λ u. row_of x.0 u (clock (book ++ e ∷ []) x.1))
    (ap use_or_none (life_now-more book doc act x.1 b new shape) ∙ grown_life (life_now book x.1) (opening_of (e ∷ []) x.1) (use_after (sectors_given book x.1 act)) (life_known book x.1 ∙ known))
    ∙ ap (row_of x.0 (use_after (sectors_given book x.1 act) (use_or_none (life_now book x.1)))) (clock-more book e x.1 b)

totals_kept : (book : List Entry) (doc : List ℕ) (act : Act) → IsBook book → judge book (record { doc = doc; act = act }) ≡ New → act_shape act ≡ true → (xs : List (ℕ × Item)) → AllByRecursion (λ (x : ℕ × Item). has_item book x.1 ≡ true) xs
    → map (total_row (book ++ record { doc = doc; act = act } ∷ [])) xs ≡ map (λ (x : ℕ × Item). total_grown book act x.1 (total_row book x)) xs
totals_kept book doc act b new shape [] h = refl
totals_kept book doc act b new shape (x ∷ xs) h =
    ap (λ r. r ∷ map (total_row (book ++ record { doc = doc; act = act } ∷ [])) xs) (total_kept book doc act x b new shape h.0)
    ∙ ap (λ l. total_grown book act x.1 (total_row book x) ∷ l) (totals_kept book doc act b new shape xs h.1)

none_or : (o : Option Use) (u : Use) → is_some o ≡ false → use_or_none (option_or o (Some u)) ≡ u
none_or None u h = refl
none_or (Some v) u h = (cc)

mapped_none : (f : Use → Use) (o : Option Use) → is_some o ≡ false → is_some (option_map f o) ≡ false
mapped_none f None h = refl
mapped_none f (Some v) h = (cc)

-- the total of an item that is new: the use that it brought with it, and the moment up to which that counts
total_new : (book : List Entry) (doc : List ℕ) (act : Act) (x : ℕ × Item) (u : Use) (m : ℕ) → IsBook book → judge book (record { doc = doc; act = act }) ≡ New → act_shape act ≡ true → has_item book x.1 ≡ false
    → opening_of (record { doc = doc; act = act } ∷ []) x.1 ≡ Some u → latest (moments_given book x.1 act) ≡ m
    → total_row (book ++ record { doc = doc; act = act } ∷ []) x ≡ row_of x.0 u m
total_new book doc act x u m b new shape absent opens given =
    let e : Entry = record { doc = doc; act = act } in
    let more = clock-more book e x.1 b in
    let none = unknown_clock book b x.1 absent in
    let last : clock (book ++ e ∷ []) x.1 ≡ m = omega arith in
    ap (λ v. row_of x.0 v (clock (book ++ e ∷ []) x.1))
    (ap use_or_none (life_now-more book doc act x.1 b new shape ∙ ap (option_or (option_map (use_after (sectors_given book x.1 act)) (life_now book x.1))) opens)
    ∙ none_or (option_map (use_after (sectors_given book x.1 act)) (life_now book x.1)) u (mapped_none (use_after (sectors_given book x.1 act)) (life_now book x.1) (life_known book x.1 ∙ absent)))
    ∙ ap (row_of x.0 u) last

pub self_latest : (t : List ℕ) (m : ℕ) → latest (if_same t t m) ≡ m
self_latest t m = let e = ap (λ b. latest (cond b (m ∷ []) [])) ((text_same t t).1 refl) in omega arith

totals_new : (book : List Entry) (doc : List ℕ) (act : Act) → IsBook book → judge book (record { doc = doc; act = act }) ≡ New → act_shape act ≡ true → map (total_row (book ++ record { doc = doc; act = act } ∷ [])) (items_by book act) ≡ totals_opened book act
totals_new book doc (Added a positions) b new shape =
    ap (λ r. r ∷ []) (total_new book doc (Added a positions) (next book, Airframe a.tail) a.opening a.as_of b new shape (added_is_unknown book doc a positions (ap is_new new))
    (ap (option_map (λ (a : Aircraft). a.opening)) (found_first a (same_text a.tail a.tail) ((text_same a.tail a.tail).1 refl))) (self_latest a.tail a.as_of))
totals_new book doc (Listed c) b new shape =
    ap (λ r. r ∷ []) (total_new book doc (Listed c) (next book, Component c.serial) c.opening c.as_of b new shape (listed_is_unknown book doc c (ap is_new new))
    (ap (option_map (λ (c : ComponentAdded). c.opening)) (found_first c (same_text c.serial c.serial) ((text_same c.serial c.serial).1 refl))) (self_latest c.serial c.as_of))
totals_new book doc _ b new shape = refl

-- the totals of a book with a new entry: those before it grow by what it gives, and an item that it adds has one
pub total_rows-more : (book : List Entry) (doc : List ℕ) (act : Act) → IsBook book → judge book (record { doc = doc; act = act }) ≡ New → act_shape act ≡ true
    → total_rows (book ++ record { doc = doc; act = act } ∷ []) ≡ map (λ (x : ℕ × Item). total_grown book act x.1 (total_row book x)) (items book) ++ totals_opened book act
total_rows-more book doc act b new shape =
    let e : Entry = record { doc = doc; act = act } in
    ap (map (total_row (book ++ e ∷ []))) (items-more book e)
    ∙ map-append (total_row (book ++ e ∷ [])) (items book) (items_by book act)
    ∙ ap (λ l. l ++ map (total_row (book ++ e ∷ [])) (items_by book act)) (totals_kept book doc act b new shape (items book) (items_there book b))
    ∙ ap (λ l. map (λ (x : ℕ × Item). total_grown book act x.1 (total_row book x)) (items book) ++ l) (totals_new book doc act b new shape)
