-- The clock of the place where an item is: it never falls, and is not before that of the item.
use Rattle.std.proofs.Common.{arith, refl, sym, subst, ap, ◌∙◌, ◌≡◌, ℕ, ◌≤◌, List, [], ◌∷◌, ◌++◌, Bool, true, false, cond, ◌&&◌, Option, Some, None}
use Rattle.std.specs.Prelude.{max, find, is_none, is_some, map}
use Rattle.std.specs.List.{AllByRecursion}
use Rattle.std.specs.Option.{option_map, option_map_or, option_or}
use Rattle.std.proofs.lemmas.List.{map-id}
use Rattle.std.proofs.lemmas.List.Folds.{find-append}
use Rattle.mx_book.specs.commands.Act.{Act, Entry, Listed, Fitted, Removed, Released}
use Rattle.mx_book.specs.commands.Same.{same_text}
use Rattle.mx_book.specs.declared.commands.item.Item.{Item}
use Rattle.mx_book.specs.declared.commands.item.Item.TheVariants.{Airframe, Component}
use Rattle.mx_book.specs.declared.commands.fitting.Fitting.{Fitting}
use Rattle.mx_book.specs.declared.commands.fitting.Removal.{Removal}
use Rattle.mx_book.specs.declared.commands.release.Place.{Place}
use Rattle.mx_book.specs.declared.commands.release.Place.TheVariants as places
use Rattle.mx_book.proofs.CommandsProofs.SameLemmas.{text_same}
use Rattle.mx_book.specs.declared.verdict.Verdict.TheVariants.{New}
use Rattle.mx_book.specs.Register.{component}
use Rattle.mx_book.specs.Book.{IsBook, is_new}
use Rattle.mx_book.specs.Judge.{judge, fitted_in_shop, clock_where_fitted, is_at, item_at}
use Rattle.mx_book.specs.Span.{Span, spans, fitted, tail_fitted}
use Rattle.mx_book.specs.Life.{latest, if_same, if_in_shop, component_moments, clock}
use Rattle.mx_book.proofs.PassLemmas.{new-fitting}
use Rattle.mx_book.proofs.SpanLemmas.{removed_nowhere}
use Rattle.mx_registers.proofs.NewLemmas.{listed_is_unknown}
use Rattle.mx_registers.specs.kept.Changes.{clock_of_place}
use Rattle.mx_registers.proofs.KeptProofs.SpanGrowth.{span_of, spans-more}
use Rattle.mx_registers.proofs.KeptProofs.PlaceLemmas.{moves, fitted_kept}
use Rattle.mx_registers.proofs.KeptProofs.ClockLemmas.{clock-more}
use Rattle.mx_registers.proofs.KeptProofs.KnownLemmas.{spans_known}
use Rattle.mx_registers.proofs.KeptProofs.Induction.{of_each_book}
use Rattle.mx_registers.proofs.KeptProofs.JudgedLemmas.{new-timely, not_passed, new-in_shop}

-- ── the clock, where the component is fitted there ──

-- the clock of a component's place, where it is fitted to the aircraft with this registration, or nowhere
abbrev place_by : List Entry → List ℕ → Option (List ℕ) → ℕ
place_by book serial o = option_map_or (λ tail. clock book (Airframe tail)) o (clock book (Component serial))

abbrev tail_of : Option Span → Option (List ℕ)
tail_of o = option_map (λ (s : Span). s.tail) o

-- clocks never fall
pub clock_grows : (book : List Entry) (e : Entry) (item : Item) → IsBook book → clock book item ≤ clock (book ++ e ∷ []) item
clock_grows book e item b = let h = clock-more book e item b in omega arith

place_grows : (book : List Entry) (e : Entry) (serial : List ℕ) → IsBook book → (o : Option (List ℕ)) → place_by book serial o ≤ place_by (book ++ e ∷ []) serial o
place_grows book e serial b None = clock_grows book e (Component serial) b
place_grows book e serial b (Some tail) = clock_grows book e (Airframe tail) b

-- ── where a component is that was just fitted or removed ──

no_fitting : (o : Option Span) → is_some o ≡ false → o ≡ None
no_fitting None h = refl
no_fitting (Some x) h = (cc)

absent : (book : List Entry) (doc : List ℕ) (f : Fitting) → judge book (record { doc = doc; act = Fitted f }) ≡ New → fitted book f.serial ≡ None
absent book doc f new = no_fitting (fitted book f.serial) (new-fitting book (record { doc = doc; act = Fitted f }) f new refl).1

-- a component that was just fitted is where it was fitted to
fitted_now : (book : List Entry) (doc : List ℕ) (f : Fitting) → judge book (record { doc = doc; act = Fitted f }) ≡ New → tail_fitted (book ++ record { doc = doc; act = Fitted f } ∷ []) f.serial ≡ Some f.tail
fitted_now book doc f new =
    let p : Span → Bool = λ (s : Span). same_text s.serial f.serial && is_none s.to in
    ap (λ l. tail_of (find p l)) (spans-more book (record { doc = doc; act = Fitted f }))
    ∙ ap tail_of (find-append p (map (λ (x : Span). x) (spans book)) (span_of f [] ∷ []))
    ∙ ap (λ l. tail_of (option_or (find p l) (find p (span_of f [] ∷ [])))) (map-id (spans book))
    ∙ ap (λ o. tail_of (option_or o (find p (span_of f [] ∷ [])))) (absent book doc f new)
    ∙ ap (λ c. tail_of (cond (c && true) (Some (span_of f [])) None)) ((text_same f.serial f.serial).1 refl)

-- ── the moments of a component that is fitted ──

latest_none : (b : Bool) (m : ℕ) → b ≡ false → latest (cond b (m ∷ []) []) ≡ 0
latest_none b m h = ap (λ c. latest (cond c (m ∷ []) [])) h

found_known : (known : Span → Bool) (p : Span → Bool) (xs : List Span) (s : Span) → AllByRecursion (λ x. known x ≡ true) xs → find p xs ≡ Some s → (known s ≡ true) × (p s ≡ true)
found_known known p [] s k h = (cc)
found_known known p (x ∷ xs) s k h = at (found_known known p xs s k.1) (p x) refl h
  where
    at : (find p xs ≡ Some s → (known s ≡ true) × (p s ≡ true)) → (b : Bool) → p x ≡ b → cond b (Some x) (find p xs) ≡ Some s → (known s ≡ true) × (p s ≡ true)
    at rest true e h = let same : x ≡ s = cc in (ap known (sym same) ∙ k.0, ap p (sym same) ∙ e)
    at rest false e h = rest h

left_true : (p q : Bool) → p && q ≡ true → p ≡ true
left_true true q h = refl
left_true false q h = h

-- a component that is fitted is in the book
fitted_known : (book : List Entry) (serial : List ℕ) (s : Span) → IsBook book → fitted book serial ≡ Some s → is_some (component book serial) ≡ true
fitted_known book serial s b e =
    let h = found_known (λ (x : Span). is_some (component book x.serial)) (λ (x : Span). same_text x.serial serial && is_none x.to) (spans book) s (spans_known book b) e in
    subst (λ (t : List ℕ). is_some (component book t) ≡ true) ((text_same s.serial serial).0 (left_true (same_text s.serial serial) (is_none s.to) h.1)) h.0

-- an entry that does not move a component that is fitted gives it no moment
no_moment : (book : List Entry) (doc : List ℕ) (act : Act) (serial : List ℕ) (s : Span) → IsBook book → judge book (record { doc = doc; act = act }) ≡ New → moves act serial ≡ false → fitted book serial ≡ Some s → latest (component_moments serial act) ≡ 0
no_moment book doc (Listed c) serial s b new still e = at (same_text c.serial serial) refl
  where
    at : (t : Bool) → same_text c.serial serial ≡ t → latest (cond t (c.as_of ∷ []) []) ≡ 0
    at true f =
        let unknown : is_some (component book serial) ≡ false = subst (λ (t : List ℕ). is_some (component book t) ≡ false) ((text_same c.serial serial).0 f) (listed_is_unknown book doc c (ap is_new new)) in
        let known = fitted_known book serial s b e in (cc)
    at false f = refl
no_moment book doc (Fitted f) serial s b new still e = latest_none (same_text f.serial serial) f.moment still
no_moment book doc (Removed r) serial s b new still e = latest_none (same_text r.serial serial) r.moment still
no_moment book doc (Released r lines) serial s b new still e = at r.place (new-in_shop book doc r lines new)
  where
    at : (place : Place) → fitted_in_shop book place ≡ false → latest (if_in_shop serial place r.moment) ≡ 0
    at (places.Aircraft tail) h = refl
    at (places.Shop c kind) h = there (same_text c serial) refl
      where
        there : (t : Bool) → same_text c serial ≡ t → latest (cond t (r.moment ∷ []) []) ≡ 0
        there true f =
            let free : is_some (fitted book serial) ≡ false = subst (λ (t : List ℕ). is_some (fitted book t) ≡ false) ((text_same c serial).0 f) h in
            let taken = ap (λ (o : Option Span). is_some o) e in (cc)
        there false f = refl
no_moment book doc _ serial s b new still e = refl

-- ── one entry more ──

-- the clock of a component is by that of its place
abbrev IsPlaced : List Entry → Type 0
IsPlaced book = (serial : List ℕ) → clock book (Component serial) ≤ clock_of_place book (Component serial)

pub self_latest : (t : List ℕ) (m : ℕ) → latest (if_same t t m) ≡ m
self_latest t m = let e = ap (λ b. latest (cond b (m ∷ []) [])) ((text_same t t).1 refl) in omega arith

record Step (book : List Entry) (e : Entry) (serial : List ℕ) : Type 0 where
  pub grows : clock_of_place book (Component serial) ≤ clock_of_place (book ++ e ∷ []) (Component serial)
  pub placed : clock (book ++ e ∷ []) (Component serial) ≤ clock_of_place (book ++ e ∷ []) (Component serial)

-- an entry that does not move the component
unmoved : (book : List Entry) (doc : List ℕ) (act : Act) (serial : List ℕ) → IsBook book → judge book (record { doc = doc; act = act }) ≡ New → IsPlaced book → moves act serial ≡ false → Step book (record { doc = doc; act = act }) serial
unmoved book doc act serial b new placed still = record {
  grows = subst (λ o. clock_of_place book (Component serial) ≤ place_by (book ++ record { doc = doc; act = act } ∷ []) serial (tail_of o)) (sym kept) (place_grows book (record { doc = doc; act = act }) serial b (tail_fitted book serial));
  placed = subst (λ o. clock (book ++ record { doc = doc; act = act } ∷ []) (Component serial) ≤ place_by (book ++ record { doc = doc; act = act } ∷ []) serial (tail_of o)) (sym kept) (at (fitted book serial) refl);
}
  where
    kept : fitted (book ++ record { doc = doc; act = act } ∷ []) serial ≡ fitted book serial
    kept = fitted_kept serial book (record { doc = doc; act = act }) still

    at : (o : Option Span) → fitted book serial ≡ o → clock (book ++ record { doc = doc; act = act } ∷ []) (Component serial) ≤ place_by (book ++ record { doc = doc; act = act } ∷ []) serial (tail_of o)
    at None e = omega arith
    at (Some s) e =
        let none = no_moment book doc act serial s b new still e in
        let more = clock-more book (record { doc = doc; act = act }) (Component serial) b in
        let there : clock book (Component serial) ≤ clock book (Airframe s.tail) = subst (λ o. clock book (Component serial) ≤ place_by book serial (tail_of o)) e (placed serial) in
        let grows = clock_grows book (record { doc = doc; act = act }) (Airframe s.tail) b in omega arith

-- an entry that fits the component
just_fitted : (book : List Entry) (doc : List ℕ) (f : Fitting) → IsBook book → judge book (record { doc = doc; act = Fitted f }) ≡ New → Step book (record { doc = doc; act = Fitted f }) f.serial
just_fitted book doc f b new =
    let e : Entry = record { doc = doc; act = Fitted f } in
    let by = not_passed f.moment (max (clock book (Airframe f.tail)) (clock book (Component f.serial))) (new-timely book e new) in
    let before : clock_of_place book (Component f.serial) ≡ clock book (Component f.serial) = ap (λ o. place_by book f.serial (tail_of o)) (absent book doc f new) in
    let after : clock_of_place (book ++ e ∷ []) (Component f.serial) ≡ clock (book ++ e ∷ []) (Airframe f.tail) = ap (place_by (book ++ e ∷ []) f.serial) (fitted_now book doc f new) in
    let airframe = clock-more book e (Airframe f.tail) b in
    let component = clock-more book e (Component f.serial) b in
    let one = self_latest f.tail f.moment in
    let two = self_latest f.serial f.moment in
    record { grows = omega arith; placed = omega arith }

where_fitted : (book : List Entry) (serial : List ℕ) (m : ℕ) → max (clock_where_fitted book serial) (clock book (Component serial)) ≤ m → clock_of_place book (Component serial) ≤ m
where_fitted book serial m h = at (tail_fitted book serial) h
  where
    at : (o : Option (List ℕ)) → max (option_map_or (λ tail. clock book (Airframe tail)) o 0) (clock book (Component serial)) ≤ m → place_by book serial o ≤ m
    at None h = omega arith
    at (Some tail) h = omega arith

-- an entry that removes the component
just_removed : (book : List Entry) (doc : List ℕ) (r : Removal) → IsBook book → judge book (record { doc = doc; act = Removed r }) ≡ New → Step book (record { doc = doc; act = Removed r }) r.serial
just_removed book doc r b new =
    let e : Entry = record { doc = doc; act = Removed r } in
    let by = where_fitted book r.serial r.moment (not_passed r.moment (max (clock_where_fitted book r.serial) (clock book (Component r.serial))) (new-timely book e new)) in
    let after : clock_of_place (book ++ e ∷ []) (Component r.serial) ≡ clock (book ++ e ∷ []) (Component r.serial) = ap (λ o. place_by (book ++ e ∷ []) r.serial (tail_of o)) (removed_nowhere book doc r) in
    let component = clock-more book e (Component r.serial) b in
    let one = self_latest r.serial r.moment in
    record { grows = omega arith; placed = omega arith }

step : (book : List Entry) (doc : List ℕ) (act : Act) (serial : List ℕ) → IsBook book → judge book (record { doc = doc; act = act }) ≡ New → IsPlaced book → Step book (record { doc = doc; act = act }) serial
step book doc (Fitted f) serial b new placed = at (same_text f.serial serial) refl
  where
    at : (t : Bool) → same_text f.serial serial ≡ t → Step book (record { doc = doc; act = Fitted f }) serial
    at true e = subst (λ (t : List ℕ). Step book (record { doc = doc; act = Fitted f }) t) ((text_same f.serial serial).0 e) (just_fitted book doc f b new)
    at false e = unmoved book doc (Fitted f) serial b new placed e
step book doc (Removed r) serial b new placed = at (same_text r.serial serial) refl
  where
    at : (t : Bool) → same_text r.serial serial ≡ t → Step book (record { doc = doc; act = Removed r }) serial
    at true e = subst (λ (t : List ℕ). Step book (record { doc = doc; act = Removed r }) t) ((text_same r.serial serial).0 e) (just_removed book doc r b new)
    at false e = unmoved book doc (Removed r) serial b new placed e
step book doc act serial b new placed = unmoved book doc act serial b new placed refl

-- in a book the clock of a component is by that of its place
pub is_placed : (book : List Entry) → IsBook book → (serial : List ℕ) → clock book (Component serial) ≤ clock_of_place book (Component serial)
is_placed = of_each_book IsPlaced (λ book e b shape new placed serial. (step book e.doc e.act serial b new placed).placed) (λ serial. omega arith)

-- the clock of an item's place never falls
pub place_clock_grows : (book : List Entry) (e : Entry) (item : Item) → IsBook book → judge book e ≡ New → clock_of_place book item ≤ clock_of_place (book ++ e ∷ []) item
place_clock_grows book e (Airframe tail) b new = clock_grows book e (Airframe tail) b
place_clock_grows book e (Component serial) b new = (step book e.doc e.act serial b new (is_placed book b)).grows

-- ── the place of an item at which work is done ──

-- an item that is at an aircraft has that aircraft's clock for its place
pub at_aircraft : (book : List Entry) (tail : List ℕ) (item : Item) → is_at book (places.Aircraft tail) item ≡ true → clock_of_place book item ≡ clock book (Airframe tail)
at_aircraft book tail (Airframe t) h = ap (λ (x : List ℕ). clock book (Airframe x)) ((text_same t tail).0 h)
at_aircraft book tail (Component serial) h = at (tail_fitted book serial) h
  where
    at : (o : Option (List ℕ)) → option_map_or (λ t. same_text t tail) o false ≡ true → place_by book serial o ≡ clock book (Airframe tail)
    at None h = (cc)
    at (Some t) h = ap (λ (x : List ℕ). clock book (Airframe x)) ((text_same t tail).0 h)

-- the clock of a place is by that of an item that is there
pub place_by_item : (book : List Entry) (place : Place) (item : Item) → IsBook book → is_at book place item ≡ true → clock book (item_at place) ≤ clock_of_place book item
place_by_item book (places.Aircraft tail) item b h = let e = at_aircraft book tail item h in omega arith
place_by_item book (places.Shop serial kind) (Airframe tail) b h = (cc)
place_by_item book (places.Shop serial kind) (Component s) b h = subst (λ (x : List ℕ). clock book (Component x) ≤ clock_of_place book (Component s)) ((text_same s serial).0 h) (is_placed book b s)
