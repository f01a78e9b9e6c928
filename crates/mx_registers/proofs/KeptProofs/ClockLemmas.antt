-- The clocks of a book: what they are not before, and what one entry more gives them.
use Rattle.std.proofs.Common.{arith, refl, sym, ap, ◌∙◌, ◌≡◌, ℕ, ◌≤◌, List, [], ◌∷◌, ◌++◌, Bool, true, false, cond, ◌&&◌, ◌||◌, Option, Some, None, append-nil}
use Rattle.std.specs.Prelude.{max, find, filter, is_none, map, IfSome}
use Rattle.std.specs.List.{filter_map, flat_map, list_any, cons_option, AllByRecursion}
use Rattle.std.specs.Option.{option_map}
use Rattle.std.proofs.lemmas.List.{map-id}
use Rattle.std.proofs.lemmas.List.Concat.{flat_map-append}
use Rattle.std.proofs.lemmas.List.Elements.{filter-append, filter_map-append}
use Rattle.mx_book.specs.commands.Act.{Act, Entry, Added, Listed, Loaded, Opened, Flown, Fitted, Removed, Released, Deferred, Extended, removal_of}
use Rattle.mx_book.specs.commands.Same.{same_text}
use Rattle.mx_book.specs.declared.commands.fitting.Fitting.{Fitting}
use Rattle.mx_book.specs.declared.commands.item.Item.{Item}
use Rattle.mx_book.specs.declared.commands.item.Item.TheVariants.{Airframe, Component}
use Rattle.mx_book.specs.declared.commands.fitting.Removal.{Removal}
use Rattle.mx_book.proofs.CommandsProofs.SameLemmas.{text_same}
use Rattle.mx_book.specs.Register.{register}
use Rattle.mx_book.specs.Book.{IsBook}
use Rattle.mx_book.specs.Span.{Span, first_removal, span_begun, spans, is_open_on, is_fitted_to}
use Rattle.mx_book.specs.Life.{latest, if_same, airframe_moments, component_moments, removals_from, clock}
use Rattle.mx_registers.specs.kept.Changes.{ended_by, moments_given}
use Rattle.mx_registers.proofs.KeptProofs.SpanGrowth.{span_of, spans-more}
use Rattle.mx_registers.proofs.KeptProofs.PlaceLemmas.{open_where_fitted}

-- the latest of two lists of moments
pub latest-append : (xs ys : List ℕ) → latest (xs ++ ys) ≡ max (latest xs) (latest ys)
latest-append [] ys = omega arith
latest-append (x ∷ xs) ys = let rest = latest-append xs ys in omega arith

-- the moments of entries with one more
pub moments-more : (moments : Act → List ℕ) (book : List Entry) (e : Entry) → latest (flat_map (λ entry. moments entry.act) (book ++ e ∷ [])) ≡ max (latest (flat_map (λ entry. moments entry.act) book)) (latest (moments e.act))
moments-more moments book e =
    ap latest (flat_map-append (λ (entry : Entry). moments entry.act) book (e ∷ []))
    ∙ latest-append (flat_map (λ entry. moments entry.act) book) (moments e.act ++ [])
    ∙ ap (λ l. max (latest (flat_map (λ entry. moments entry.act) book)) (latest l)) (append-nil (moments e.act))

-- ── the moments of spans ──

-- the span begins by the clock of its airframe, and ends by that and by the clock of its component
abbrev pub IsTimedBy : (List ℕ → ℕ) → (List ℕ → ℕ) → Span → Type 0
IsTimedBy of_airframe of_component s = (s.from ≤ of_airframe s.tail) × IfSome s.to (λ m. (m ≤ of_airframe s.tail) × (m ≤ of_component s.serial))

if_same_self : (t : List ℕ) (m : ℕ) → if_same t t m ≡ m ∷ []
if_same_self t m = ap (λ b. cond b (m ∷ []) []) ((text_same t t).1 refl)

removal_found : (serial : List ℕ) (r : Removal) (o : Option Removal) (rest : List ℕ) (m : ℕ) (b : Bool) → (option_map (λ (x : Removal). x.moment) o ≡ Some m → m ≤ latest rest)
    → option_map (λ (x : Removal). x.moment) (cond b (Some r) o) ≡ Some m → m ≤ latest (cond b (r.moment ∷ []) [] ++ rest)
removal_found serial r o rest m true later h = let same : r.moment ≡ m = cc in omega arith
removal_found serial r o rest m false later h = later h

-- the first removal is by the clock of the component
pub first_removal-by : (serial : List ℕ) (later : List Entry) (m : ℕ) → first_removal serial later ≡ Some m → m ≤ latest (flat_map (λ e. component_moments serial e.act) later)
first_removal-by serial [] m h = (cc)
first_removal-by serial (x ∷ later) m h = at x.act h (first_removal-by serial later m)
  where
    more : (first_removal serial later ≡ Some m → m ≤ latest (flat_map (λ e. component_moments serial e.act) later)) → (act : Act) → first_removal serial later ≡ Some m → m ≤ latest (component_moments serial act ++ flat_map (λ e. component_moments serial e.act) later)
    more rest act h = let n = rest h in let e = latest-append (component_moments serial act) (flat_map (λ e. component_moments serial e.act) later) in omega arith

    at : (act : Act) → option_map (λ (r : Removal). r.moment) (find (λ (r : Removal). same_text r.serial serial) (cons_option (removal_of act) (register removal_of later))) ≡ Some m
        → (first_removal serial later ≡ Some m → m ≤ latest (flat_map (λ e. component_moments serial e.act) later)) → m ≤ latest (component_moments serial act ++ flat_map (λ e. component_moments serial e.act) later)
    at (Removed r) h rest = removal_found serial r (find (λ (r : Removal). same_text r.serial serial) (register removal_of later)) (flat_map (λ e. component_moments serial e.act) later) m (same_text r.serial serial) rest h
    at (Added a positions) h rest = more rest (Added a positions) h
    at (Listed c) h rest = more rest (Listed c) h
    at (Loaded p tasks) h rest = more rest (Loaded p tasks) h
    at (Opened o) h rest = more rest (Opened o) h
    at (Flown s) h rest = more rest (Flown s) h
    at (Fitted f) h rest = more rest (Fitted f) h
    at (Released r lines) h rest = more rest (Released r lines) h
    at (Deferred d) h rest = more rest (Deferred d) h
    at (Extended x) h rest = more rest (Extended x) h

-- the removals from an aircraft are that of the first span, and those of the others
removals-cons : (tail : List ℕ) (begun rest : List Span) → filter_map (λ s. s.to) (filter (λ s. same_text s.tail tail) (begun ++ rest)) ≡ filter_map (λ s. s.to) (filter (λ s. same_text s.tail tail) begun) ++ filter_map (λ s. s.to) (filter (λ s. same_text s.tail tail) rest)
removals-cons tail begun rest =
    ap (filter_map (λ (s : Span). s.to)) (filter-append (λ s. same_text s.tail tail) begun rest)
    ∙ filter_map-append (λ (s : Span). s.to) (filter (λ s. same_text s.tail tail) begun) (filter (λ s. same_text s.tail tail) rest)

-- the span of a fitting is timed by clocks that are not before the moments of the fitting and of what follows
span_timed : (f : Fitting) (later : List Entry) (of_airframe of_component : List ℕ → ℕ) → f.moment ≤ of_airframe f.tail
    → latest (filter_map (λ s. s.to) (filter (λ s. same_text s.tail f.tail) (span_of f later ∷ []))) ≤ of_airframe f.tail
    → latest (flat_map (λ e. component_moments f.serial e.act) later) ≤ of_component f.serial
    → (o : Option ℕ) → first_removal f.serial later ≡ o → IfSome o (λ m. (m ≤ of_airframe f.tail) × (m ≤ of_component f.serial))
span_timed f later of_airframe of_component a b c None e = tt
span_timed f later of_airframe of_component a b c (Some m) e =
    let by = first_removal-by f.serial later m e in
    let there : filter_map (λ (s : Span). s.to) (filter (λ (s : Span). same_text s.tail f.tail) (span_of f later ∷ [])) ≡ m ∷ [] =
    ap (λ b. filter_map (λ (s : Span). s.to) (cond b (span_of f later ∷ []) [])) ((text_same f.tail f.tail).1 refl) ∙ ap (λ o. cons_option o []) e in
    let at = ap latest there in
    (omega arith, omega arith)

timed_from : (later : List Entry) (of_airframe of_component : List ℕ → ℕ) → ((t : List ℕ) → latest (flat_map (λ e. airframe_moments t e.act) later) ≤ of_airframe t)
    → ((t : List ℕ) → latest (removals_from later t) ≤ of_airframe t) → ((c : List ℕ) → latest (flat_map (λ e. component_moments c e.act) later) ≤ of_component c)
    → AllByRecursion (IsTimedBy of_airframe of_component) (spans later)
timed_from [] of_airframe of_component a r c = tt
timed_from (x ∷ later) of_airframe of_component a r c =
    at x.act a r c (timed_from later of_airframe of_component
    (λ t. let e = latest-append (airframe_moments t x.act) (flat_map (λ e. airframe_moments t e.act) later) in let h = a t in omega arith)
    (λ t. let e = ap latest (removals-cons t (span_begun x.act later) (spans later)) ∙ latest-append (filter_map (λ s. s.to) (filter (λ s. same_text s.tail t) (span_begun x.act later))) (removals_from later t) in let h = r t in omega arith)
    (λ t. let e = latest-append (component_moments t x.act) (flat_map (λ e. component_moments t e.act) later) in let h = c t in omega arith))
  where
    at : (act : Act) → ((t : List ℕ) → latest (airframe_moments t act ++ flat_map (λ e. airframe_moments t e.act) later) ≤ of_airframe t)
        → ((t : List ℕ) → latest (filter_map (λ s. s.to) (filter (λ s. same_text s.tail t) (span_begun act later ++ spans later))) ≤ of_airframe t)
        → ((t : List ℕ) → latest (component_moments t act ++ flat_map (λ e. component_moments t e.act) later) ≤ of_component t)
        → AllByRecursion (IsTimedBy of_airframe of_component) (spans later) → AllByRecursion (IsTimedBy of_airframe of_component) (span_begun act later ++ spans later)
    at (Fitted f) a r c rest =
        let from : f.moment ≤ of_airframe f.tail = let h = a f.tail in let e = ap (λ l. latest (l ++ flat_map (λ e. airframe_moments f.tail e.act) later)) (if_same_self f.tail f.moment) in omega arith in
        let to : latest (filter_map (λ s. s.to) (filter (λ s. same_text s.tail f.tail) (span_of f later ∷ []))) ≤ of_airframe f.tail =
        let h = r f.tail in let e = ap latest (removals-cons f.tail (span_of f later ∷ []) (spans later)) ∙ latest-append (filter_map (λ s. s.to) (filter (λ s. same_text s.tail f.tail) (span_of f later ∷ []))) (removals_from later f.tail) in omega arith in
        let of : latest (flat_map (λ e. component_moments f.serial e.act) later) ≤ of_component f.serial =
        let h = c f.serial in let e = latest-append (if_same f.serial f.serial f.moment) (flat_map (λ e. component_moments f.serial e.act) later) in omega arith in
        ((from, span_timed f later of_airframe of_component from to of (first_removal f.serial later) refl), rest)
    at _ a r c rest = rest

-- a span of a book begins by the clock of its airframe, and ends by that and by the clock of its component
pub spans_timed : (book : List Entry) → AllByRecursion (IsTimedBy (λ t. clock book (Airframe t)) (λ c. clock book (Component c))) (spans book)
spans_timed book = timed_from book (λ t. clock book (Airframe t)) (λ c. clock book (Component c)) (λ t. omega arith) (λ t. omega arith) (λ c. omega arith)

-- ── one entry more ──

step : (moment : ℕ) (o : Option ℕ) (t b any : Bool) (l r : List ℕ) → latest l ≡ max (latest r) (cond any moment 0)
    → latest (cond t (cons_option (cond (is_none o && b) (Some moment) o) l) l) ≡ max (latest (cond t (cons_option o r) r)) (cond (cond b ((t && is_none o) || any) any) moment 0)
step moment None true true true l r h = omega arith
step moment None true true false l r h = omega arith
step moment None true false any l r h = h
step moment None false true any l r h = h
step moment None false false any l r h = h
step moment (Some m) true true true l r h = omega arith
step moment (Some m) true true false l r h = omega arith
step moment (Some m) true false true l r h = omega arith
step moment (Some m) true false false l r h = omega arith
step moment (Some m) false true any l r h = h
step moment (Some m) false false any l r h = h

module _ (tail : List ℕ) (r : Removal) where
  abbrev ends : List Span → List ℕ
  ends xs = filter_map (λ (s : Span). s.to) (filter (λ (s : Span). same_text s.tail tail) xs)

  abbrev any_there : List Span → Bool
  any_there xs = list_any (is_open_on tail) (filter (λ (s : Span). same_text s.serial r.serial) xs)

  ends-cons : (x : Span) (rest : List Span) (b : Bool) → same_text x.tail tail ≡ b → ends (x ∷ rest) ≡ cond b (cons_option x.to (ends rest)) (ends rest)
  ends-cons x rest true e = ap (λ c. filter_map (λ (s : Span). s.to) (cond c (x ∷ filter (λ (s : Span). same_text s.tail tail) rest) (filter (λ (s : Span). same_text s.tail tail) rest))) e
  ends-cons x rest false e = ap (λ c. filter_map (λ (s : Span). s.to) (cond c (x ∷ filter (λ (s : Span). same_text s.tail tail) rest) (filter (λ (s : Span). same_text s.tail tail) rest))) e

  any-cons : (x : Span) (rest : List Span) (b : Bool) → same_text x.serial r.serial ≡ b → any_there (x ∷ rest) ≡ cond b ((same_text x.tail tail && is_none x.to) || any_there rest) (any_there rest)
  any-cons x rest true e = ap (λ c. list_any (is_open_on tail) (cond c (x ∷ filter (λ (s : Span). same_text s.serial r.serial) rest) (filter (λ (s : Span). same_text s.serial r.serial) rest))) e
  any-cons x rest false e = ap (λ c. list_any (is_open_on tail) (cond c (x ∷ filter (λ (s : Span). same_text s.serial r.serial) rest) (filter (λ (s : Span). same_text s.serial r.serial) rest))) e

  ended_tail : (x : Span) → (ended_by (Removed r) x).tail ≡ x.tail
  ended_tail x = at (is_none x.to && same_text x.serial r.serial)
    where
      at : (b : Bool) → (cond {A = Span} b (record x { to = Some r.moment }) x).tail ≡ x.tail
      at true = refl
      at false = refl

  ended_to : (x : Span) → (ended_by (Removed r) x).to ≡ cond (is_none x.to && same_text x.serial r.serial) (Some r.moment) x.to
  ended_to x = at (is_none x.to && same_text x.serial r.serial)
    where
      at : (b : Bool) → (cond {A = Span} b (record x { to = Some r.moment }) x).to ≡ cond b (Some r.moment) x.to
      at true = refl
      at false = refl

  removals_ended : (xs : List Span) → latest (ends (map (ended_by (Removed r)) xs)) ≡ max (latest (ends xs)) (cond (any_there xs) r.moment 0)
  removals_ended [] = omega arith
  removals_ended (x ∷ xs) =
      ap latest (ends-cons (ended_by (Removed r) x) (map (ended_by (Removed r)) xs) (same_text x.tail tail) (ap (λ (t : List ℕ). same_text t tail) (ended_tail x)))
      ∙ ap (λ o. latest (cond (same_text x.tail tail) (cons_option o (ends (map (ended_by (Removed r)) xs))) (ends (map (ended_by (Removed r)) xs)))) (ended_to x)
      ∙ step r.moment x.to (same_text x.tail tail) (same_text x.serial r.serial) (any_there xs) (ends (map (ended_by (Removed r)) xs)) (ends xs) (removals_ended xs)
      ∙ sym (ap (λ l. max (latest l) (cond (any_there (x ∷ xs)) r.moment 0)) (ends-cons x xs (same_text x.tail tail) refl)
      ∙ ap (λ b. max (latest (cond (same_text x.tail tail) (cons_option x.to (ends xs)) (ends xs))) (cond b r.moment 0)) (any-cons x xs (same_text x.serial r.serial) refl))

-- the removals from an aircraft with one entry more
none_begun : (tail : List ℕ) (act : Act) → filter_map (λ (s : Span). s.to) (filter (λ (s : Span). same_text s.tail tail) (span_begun act [])) ≡ []
none_begun tail (Fitted f) = at (same_text f.tail tail)
  where
    at : (b : Bool) → filter_map (λ (s : Span). s.to) (cond b (span_of f [] ∷ []) []) ≡ []
    at true = refl
    at false = refl
none_begun tail _ = refl

removals-more : (book : List Entry) (e : Entry) (tail : List ℕ) → removals_from (book ++ e ∷ []) tail ≡ filter_map (λ (s : Span). s.to) (filter (λ (s : Span). same_text s.tail tail) (map (ended_by e.act) (spans book)))
removals-more book e tail =
    ap (λ l. filter_map (λ (s : Span). s.to) (filter (λ (s : Span). same_text s.tail tail) l)) (spans-more book e)
    ∙ removals-cons tail (map (ended_by e.act) (spans book)) (span_begun e.act [])
    ∙ ap (λ l. filter_map (λ (s : Span). s.to) (filter (λ (s : Span). same_text s.tail tail) (map (ended_by e.act) (spans book))) ++ l) (none_begun tail e.act)
    ∙ append-nil (filter_map (λ (s : Span). s.to) (filter (λ (s : Span). same_text s.tail tail) (map (ended_by e.act) (spans book))))

if_latest : (b : Bool) (m : ℕ) → latest (cond b (m ∷ []) []) ≡ cond b m 0
if_latest true m = omega arith
if_latest false m = refl

airframe_clock : (book : List Entry) (doc : List ℕ) (act : Act) (tail : List ℕ) → IsBook book
    → max (max (latest (flat_map (λ e. airframe_moments tail e.act) book)) (latest (airframe_moments tail act))) (latest (filter_map (λ (s : Span). s.to) (filter (λ (s : Span). same_text s.tail tail) (map (ended_by act) (spans book)))))
    ≡ max (clock book (Airframe tail)) (latest (moments_given book (Airframe tail) act))
airframe_clock book doc (Removed r) tail h =
    let e = removals_ended tail r (spans book) in
    let there = ap (λ b. cond b r.moment 0) (open_where_fitted book tail r.serial h) in
    let given = if_latest (is_fitted_to book tail r.serial) r.moment in
    omega arith
airframe_clock book doc act tail h =
    let e = ap (λ l. latest (filter_map (λ (s : Span). s.to) (filter (λ (s : Span). same_text s.tail tail) l))) (map-id (spans book)) in omega arith

-- one entry more gives the clock of an item its moments
pub clock-more : (book : List Entry) (e : Entry) (item : Item) → IsBook book → clock (book ++ e ∷ []) item ≡ max (clock book item) (latest (moments_given book item e.act))
clock-more book e (Airframe tail) h =
    ap (λ m. max m (latest (removals_from (book ++ e ∷ []) tail))) (moments-more (airframe_moments tail) book e)
    ∙ ap (λ l. max (max (latest (flat_map (λ e. airframe_moments tail e.act) book)) (latest (airframe_moments tail e.act))) (latest l)) (removals-more book e tail)
    ∙ airframe_clock book e.doc e.act tail h
clock-more book e (Component serial) h = moments-more (component_moments serial) book e
