-- Which sectors an item is credited with, with one entry more.
use Rattle.std.proofs.Common.{arith, refl, sym, subst, ap, ◌∙◌, ◌≡◌, ℕ, ◌≤◌, ◌<◌, List, [], ◌∷◌, ◌++◌, Bool, true, false, cond, ◌&&◌, ◌||◌, Option, Some, None, append-nil}
use Rattle.std.specs.Prelude.{max, nat_le, filter, is_none, map, IfSome}
use Rattle.std.specs.List.{flat_map, list_any, list_all, cons_option, AllByRecursion}
use Rattle.std.specs.Option.{option_map, option_map_or}
use Rattle.std.proofs.lemmas.Bool.Decides.{nat_tests}
use Rattle.std.proofs.lemmas.List.{map-id}
use Rattle.std.proofs.lemmas.List.Elements.{filter-append, filter_map-append}
use Rattle.std.proofs.lemmas.List.Folds.{list_any-append}
use Rattle.mx_book.specs.commands.Act.{Act, Entry, Flown, Fitted, Removed, sector_of}
use Rattle.mx_book.specs.commands.Same.{same_text}
use Rattle.mx_book.specs.commands.Shape.{has_shape, act_shape, doc_shape, sector_shape}
use Rattle.mx_book.specs.declared.commands.fitting.Removal.{Removal}
use Rattle.mx_book.specs.declared.commands.item.Item.{Item}
use Rattle.mx_book.specs.declared.commands.item.Item.TheVariants.{Airframe, Component}
use Rattle.mx_book.specs.declared.commands.release.Place.TheVariants as places
use Rattle.mx_book.specs.declared.commands.sector.Sector.{Sector}
use Rattle.mx_book.proofs.CommandsProofs.SameLemmas.{text_same}
use Rattle.mx_book.specs.declared.verdict.Verdict.TheVariants.{New}
use Rattle.mx_book.specs.Register.{register}
use Rattle.mx_book.specs.Book.{IsBook}
use Rattle.mx_book.specs.Judge.{judge, too_early, is_at, clock_where_fitted}
use Rattle.mx_book.specs.Span.{Span, span_begun, spans, fitted, is_open_on}
use Rattle.mx_book.specs.Life.{latest, airframe_moments, clock, is_within, is_credited, credited}
use Rattle.mx_book.proofs.JudgeLemmas.{both_true}
use Rattle.mx_registers.specs.kept.Changes.{IsTimed, ended_by, sectors_given}
use Rattle.mx_registers.proofs.KeptProofs.SpanGrowth.{span_of, spans-more, same_sym}
use Rattle.mx_registers.proofs.KeptProofs.PlaceLemmas.{open_where_fitted, open_is_fitted}
use Rattle.mx_registers.proofs.KeptProofs.ClockLemmas.{latest-append, spans_timed}
use Rattle.mx_registers.proofs.KeptProofs.JudgedLemmas.{new-timely, not_passed}

le_true : (a b : ℕ) → a ≤ b → nat_le a b ≡ true
le_true a b h = grind (arith, nat_tests)

le_false : (a b : ℕ) → b < a → nat_le a b ≡ false
le_false a b h = grind (arith, nat_tests)

-- ── the sectors of a book ──

-- the sector lands after it takes off, and by the clock of its airframe
abbrev pub IsFlownBy : (List ℕ → ℕ) → Sector → Type 0
IsFlownBy of_airframe s = (s.off < s.on) × (s.on ≤ of_airframe s.tail)

-- a sector of its shape lands after it takes off
pub lands_later : (s : Sector) → sector_shape s ≡ true → s.off < s.on
lands_later s h = grind (arith, nat_tests)

flown_from : (later : List Entry) (of_airframe : List ℕ → ℕ) → list_all has_shape later ≡ true → ((t : List ℕ) → latest (flat_map (λ e. airframe_moments t e.act) later) ≤ of_airframe t)
    → AllByRecursion (IsFlownBy of_airframe) (register sector_of later)
flown_from [] of_airframe shaped a = tt
flown_from (x ∷ later) of_airframe shaped a =
    let both = both_true (has_shape x) (list_all has_shape later) shaped in
    let shape = both_true (act_shape x.act) (doc_shape x.doc x.act) both.0 in
    at x.act shape.0 a (flown_from later of_airframe both.1 (λ t. let e = latest-append (airframe_moments t x.act) (flat_map (λ e. airframe_moments t e.act) later) in let h = a t in omega arith))
  where
    at : (act : Act) → act_shape act ≡ true → ((t : List ℕ) → latest (airframe_moments t act ++ flat_map (λ e. airframe_moments t e.act) later) ≤ of_airframe t)
        → AllByRecursion (IsFlownBy of_airframe) (register sector_of later) → AllByRecursion (IsFlownBy of_airframe) (cons_option (sector_of act) (register sector_of later))
    at (Flown s) shape a rest =
        let e = ap (λ b. latest ((cond b (s.on ∷ []) []) ++ flat_map (λ e. airframe_moments s.tail e.act) later)) ((text_same s.tail s.tail).1 refl) in
        let h = a s.tail in ((lands_later s shape, omega arith), rest)
    at _ shape a rest = rest

-- each sector of a book lands after it takes off, and by the clock of its airframe
pub sectors_flown : (book : List Entry) → list_all has_shape book ≡ true → AllByRecursion (IsFlownBy (λ t. clock book (Airframe t))) (register sector_of book)
sectors_flown book shaped = flown_from book (λ t. clock book (Airframe t)) shaped (λ t. omega arith)

-- ── a new sector is credited to what is at its aircraft ──

-- a sector that takes off by the clock of its airframe is within a span of the book exactly where the span is open on its aircraft
within_open : (book : List Entry) (s : Sector) (span : Span) → s.off < s.on → clock book (Airframe s.tail) ≤ s.off → IsTimed book span → is_within s span ≡ is_open_on s.tail span
within_open book s span lands timely timed = at (same_text span.tail s.tail) refl
  where
    to_open : (o : Option ℕ) → IfSome o (λ m. (m ≤ clock book (Airframe span.tail)) × (m ≤ clock book (Component span.serial))) → clock book (Airframe span.tail) ≤ s.off → option_map_or (λ to. nat_le s.on to) o true ≡ is_none o
    to_open None h n = refl
    to_open (Some m) h n = le_false s.on m (omega arith)

    at : (b : Bool) → same_text span.tail s.tail ≡ b → b && (nat_le span.from s.off && option_map_or (λ to. nat_le s.on to) span.to true) ≡ b && is_none span.to
    at true e =
        let same = (text_same span.tail s.tail).0 e in
        let n : clock book (Airframe span.tail) ≤ s.off = subst (λ (t : List ℕ). clock book (Airframe t) ≤ s.off) (sym same) timely in
        ap (λ b. b && option_map_or (λ to. nat_le s.on to) span.to true) (le_true span.from s.off (omega (arith, timed.0, n))) ∙ to_open span.to timed.1 n
    at false e = refl

any_agree : {X : Type 0} (p q r : X → Bool) (P : X → Type 0) → ((x : X) → P x → p x ≡ q x) → (xs : List X) → AllByRecursion P xs → list_any p (filter r xs) ≡ list_any q (filter r xs)
any_agree p q r P each [] h = refl
any_agree p q r P each (x ∷ xs) h = at (any_agree p q r P each xs h.1) (r x)
  where
    at : list_any p (filter r xs) ≡ list_any q (filter r xs) → (b : Bool) → list_any p (cond b (x ∷ filter r xs) (filter r xs)) ≡ list_any q (cond b (x ∷ filter r xs) (filter r xs))
    at rest true = ap (λ b. b || list_any p (filter r xs)) (each x h.0) ∙ ap (λ b. q x || b) rest
    at rest false = rest

-- a sector that takes off by the clock of its airframe is credited to exactly the items that are at its aircraft
pub credited_there : (book : List Entry) (item : Item) (s : Sector) → IsBook book → s.off < s.on → clock book (Airframe s.tail) ≤ s.off → is_credited book item s ≡ is_at book (places.Aircraft s.tail) item
credited_there book (Airframe tail) s h lands timely = same_sym s.tail tail
credited_there book (Component serial) s h lands timely =
    any_agree (is_within s) (is_open_on s.tail) (λ (span : Span). same_text span.serial serial) (IsTimed book) (λ span timed. within_open book s span lands timely timed) (spans book) (spans_timed book)
    ∙ open_where_fitted book s.tail serial h

-- ── what was credited stays credited ──

-- the span counts the sector after the entry as before
abbrev Counts : Act → Sector → Span → Type 0
Counts act s span = is_within s (ended_by act span) ≡ is_within s span

-- what is read of a span without its end is the same of it ended
pub kept_by : {X : Type 0} (read : Span → X) → ((x : Span) (to : ℕ) → read (record x { to = Some to }) ≡ read x) → (act : Act) (x : Span) → read (ended_by act x) ≡ read x
kept_by read same (Removed r) x = at (is_none x.to && same_text x.serial r.serial)
  where
    at : (b : Bool) → read (cond {A = Span} b (record x { to = Some r.moment }) x) ≡ read x
    at true = same x r.moment
    at false = refl
kept_by read same _ x = refl

pub serial_kept : (act : Act) (x : Span) → (ended_by act x).serial ≡ x.serial
serial_kept = kept_by (λ (x : Span). x.serial) (λ _ _. refl)

any_counts : (act : Act) (s : Sector) (serial : List ℕ) (xs : List Span) → AllByRecursion (Counts act s) xs
    → list_any (is_within s) (filter (λ (x : Span). same_text x.serial serial) (map (ended_by act) xs)) ≡ list_any (is_within s) (filter (λ (x : Span). same_text x.serial serial) xs)
any_counts act s serial [] h = refl
any_counts act s serial (x ∷ xs) h =
    ap (λ (t : List ℕ). list_any (is_within s) (cond (same_text t serial) (ended_by act x ∷ filter (λ (x : Span). same_text x.serial serial) (map (ended_by act) xs)) (filter (λ (x : Span). same_text x.serial serial) (map (ended_by act) xs)))) (serial_kept act x)
    ∙ at (same_text x.serial serial) (any_counts act s serial xs h.1)
  where
    at : (b : Bool) → list_any (is_within s) (filter (λ (x : Span). same_text x.serial serial) (map (ended_by act) xs)) ≡ list_any (is_within s) (filter (λ (x : Span). same_text x.serial serial) xs)
        → list_any (is_within s) (cond b (ended_by act x ∷ filter (λ (x : Span). same_text x.serial serial) (map (ended_by act) xs)) (filter (λ (x : Span). same_text x.serial serial) (map (ended_by act) xs)))
        ≡ list_any (is_within s) (cond b (x ∷ filter (λ (x : Span). same_text x.serial serial) xs) (filter (λ (x : Span). same_text x.serial serial) xs))
    at true rest = ap (λ b. b || list_any (is_within s) (filter (λ (x : Span). same_text x.serial serial) (map (ended_by act) xs))) h.0 ∙ ap (λ b. is_within s x || b) rest
    at false rest = rest

-- where a component is fitted, the removal is not before the clock of the airframe
where_by : (book : List Entry) (r : Removal) (span : Span) → fitted book r.serial ≡ Some span → max (clock_where_fitted book r.serial) (clock book (Component r.serial)) ≤ r.moment → clock book (Airframe span.tail) ≤ r.moment
where_by book r span e h =
    let there : clock_where_fitted book r.serial ≡ clock book (Airframe span.tail) = ap (λ (o : Option Span). option_map_or (λ tail. clock book (Airframe tail)) (option_map (λ (s : Span). s.tail) o) 0) e in omega arith

-- a removal that is not before the clocks leaves the sectors of the span that it ends
removal_counts : (book : List Entry) (r : Removal) (s : Sector) (span : Span) → max (clock_where_fitted book r.serial) (clock book (Component r.serial)) ≤ r.moment → s.on ≤ clock book (Airframe s.tail)
    → (same_text span.serial r.serial && is_none span.to ≡ true → fitted book r.serial ≡ Some span) → Counts (Removed r) s span
removal_counts book r s span timely flown only = at span.to (same_text span.serial r.serial) refl refl
  where
    ends : (o : Option ℕ) → span.to ≡ o → o ≡ None → same_text span.serial r.serial ≡ true → (t : Bool) → same_text span.tail s.tail ≡ t
        → t && (nat_le span.from s.off && nat_le s.on r.moment) ≡ t && (nat_le span.from s.off && true)
    ends o e n same false f = refl
    ends o e n same true f =
        let there = only (ap (λ b. b && is_none span.to) same ∙ ap is_none (e ∙ n)) in
        let by = where_by book r span there timely in
        let tail = (text_same span.tail s.tail).0 f in
        let on : s.on ≤ clock book (Airframe span.tail) = subst (λ (t : List ℕ). s.on ≤ clock book (Airframe t)) (sym tail) flown in
        ap (λ b. nat_le span.from s.off && b) (le_true s.on r.moment (omega arith))

    at : (o : Option ℕ) (b : Bool) → span.to ≡ o → same_text span.serial r.serial ≡ b → is_within s (cond {A = Span} (is_none span.to && same_text span.serial r.serial) (record span { to = Some r.moment }) span) ≡ is_within s span
    at None true e f =
        ap (λ b. is_within s (cond {A = Span} b (record span { to = Some r.moment }) span)) (ap (λ o. is_none o && same_text span.serial r.serial) e ∙ f)
        ∙ ends None e refl f (same_text span.tail s.tail) refl
        ∙ ap (λ o. same_text span.tail s.tail && (nat_le span.from s.off && option_map_or (λ to. nat_le s.on to) o true)) (sym e)
    at None false e f = ap (λ b. is_within s (cond {A = Span} b (record span { to = Some r.moment }) span)) (ap (λ o. is_none o && same_text span.serial r.serial) e ∙ f)
    at (Some m) b e f = ap (λ b. is_within s (cond {A = Span} b (record span { to = Some r.moment }) span)) (ap (λ o. is_none o && same_text span.serial r.serial) e)

pub all_of : {X : Type 0} (P Q : X → Type 0) → ((x : X) → P x → Q x) → (xs : List X) → AllByRecursion P xs → AllByRecursion Q xs
all_of P Q each [] h = tt
all_of P Q each (x ∷ xs) h = (each x h.0, all_of P Q each xs h.1)

all_true : {X : Type 0} (Q : X → Type 0) → ((x : X) → Q x) → (xs : List X) → AllByRecursion Q xs
all_true Q each [] = tt
all_true Q each (x ∷ xs) = (each x, all_true Q each xs)

-- an entry that is new leaves what each span of the book counts of the sectors before it
counts_kept : (book : List Entry) (act : Act) (s : Sector) → IsBook book → too_early book act ≡ None → s.on ≤ clock book (Airframe s.tail) → AllByRecursion (Counts act s) (spans book)
counts_kept book (Removed r) s h timely flown =
    let by = not_passed r.moment (max (clock_where_fitted book r.serial) (clock book (Component r.serial))) timely in
    all_of (λ (x : Span). same_text x.serial r.serial && is_none x.to ≡ true → fitted book r.serial ≡ Some x) (Counts (Removed r) s) (λ x only. removal_counts book r s x by flown only) (spans book) (open_is_fitted book r.serial h)
counts_kept book act s h timely flown = all_true (Counts act s) (λ x. refl) (spans book)

-- the span that a new entry begins counts none of the sectors before it
none_counted : (book : List Entry) (act : Act) (s : Sector) (serial : List ℕ) → too_early book act ≡ None → s.off < s.on → s.on ≤ clock book (Airframe s.tail)
    → list_any (is_within s) (filter (λ (x : Span). same_text x.serial serial) (span_begun act [])) ≡ false
none_counted book (Fitted f) s serial timely lands flown = at (same_text f.serial serial)
  where
    by : max (clock book (Airframe f.tail)) (clock book (Component f.serial)) ≤ f.moment
    by = not_passed f.moment (max (clock book (Airframe f.tail)) (clock book (Component f.serial))) timely

    outside : (b : Bool) → same_text f.tail s.tail ≡ b → b && (nat_le f.moment s.off && true) ≡ false
    outside true e =
        let on : s.on ≤ clock book (Airframe f.tail) = subst (λ (t : List ℕ). s.on ≤ clock book (Airframe t)) (sym ((text_same f.tail s.tail).0 e)) flown in
        ap (λ b. b && true) (le_false f.moment s.off (omega (arith, by)))
    outside false e = refl

    at : (b : Bool) → list_any (is_within s) (cond b (span_of f [] ∷ []) []) ≡ false
    at true = ap (λ b. b || false) (outside (same_text f.tail s.tail) refl)
    at false = refl
none_counted book _ s serial timely lands flown = refl

or_false : (b : Bool) → b || false ≡ b
or_false true = refl
or_false false = refl

-- an entry that is new leaves to whom each sector before it is credited
pub still_credited : (book : List Entry) (e : Entry) (item : Item) (s : Sector) → IsBook book → judge book e ≡ New → s.off < s.on → s.on ≤ clock book (Airframe s.tail)
    → is_credited (book ++ e ∷ []) item s ≡ is_credited book item s
still_credited book e (Airframe tail) s h new lands flown = refl
still_credited book e (Component serial) s h new lands flown =
    let timely = new-timely book e new in
    ap (λ l. list_any (is_within s) (filter (λ (x : Span). same_text x.serial serial) l)) (spans-more book e)
    ∙ ap (list_any (is_within s)) (filter-append (λ (x : Span). same_text x.serial serial) (map (ended_by e.act) (spans book)) (span_begun e.act []))
    ∙ list_any-append (is_within s) (filter (λ (x : Span). same_text x.serial serial) (map (ended_by e.act) (spans book))) (filter (λ (x : Span). same_text x.serial serial) (span_begun e.act []))
    ∙ ap (λ b. list_any (is_within s) (filter (λ (x : Span). same_text x.serial serial) (map (ended_by e.act) (spans book))) || b) (none_counted book e.act s serial timely lands flown)
    ∙ or_false (list_any (is_within s) (filter (λ (x : Span). same_text x.serial serial) (map (ended_by e.act) (spans book))))
    ∙ any_counts e.act s serial (spans book) (counts_kept book e.act s h timely flown)

pub filter_on : {X : Type 0} (p q : X → Bool) (xs : List X) → AllByRecursion (λ x. p x ≡ q x) xs → filter p xs ≡ filter q xs
filter_on p q [] h = refl
filter_on p q (x ∷ xs) h = ap (λ b. cond b (x ∷ filter p xs) (filter p xs)) h.0 ∙ ap (λ l. cond (q x) (x ∷ l) l) (filter_on p q xs h.1)

-- the sectors that an item is credited with, with one entry more that is new
pub credited-more : (book : List Entry) (e : Entry) (item : Item) → IsBook book → judge book e ≡ New
    → credited (book ++ e ∷ []) item ≡ credited book item ++ filter (is_credited (book ++ e ∷ []) item) (register sector_of (e ∷ []))
credited-more book e item h new =
    ap (filter (is_credited (book ++ e ∷ []) item)) (filter_map-append (λ (x : Entry). sector_of x.act) book (e ∷ []))
    ∙ filter-append (is_credited (book ++ e ∷ []) item) (register sector_of book) (register sector_of (e ∷ []))
    ∙ ap (λ l. l ++ filter (is_credited (book ++ e ∷ []) item) (register sector_of (e ∷ [])))
    (filter_on (is_credited (book ++ e ∷ []) item) (is_credited book item) (register sector_of book)
    (all_of (IsFlownBy (λ t. clock book (Airframe t))) (λ s. is_credited (book ++ e ∷ []) item s ≡ is_credited book item s)
    (λ s flown. still_credited book e item s h new flown.0 flown.1) (register sector_of book) (sectors_flown book h.shaped)))

-- a new sector is credited to exactly the items that it is credited to by the spans before it: no rule is needed for this
pub newly_credited : (book : List Entry) (doc : List ℕ) (s : Sector) (item : Item) → is_credited (book ++ record { doc = doc; act = Flown s } ∷ []) item s ≡ is_credited book item s
newly_credited book doc s (Airframe tail) = refl
newly_credited book doc s (Component serial) =
    ap (λ l. list_any (is_within s) (filter (λ (x : Span). same_text x.serial serial) l)) (spans-more book (record { doc = doc; act = Flown s }) ∙ append-nil (map (λ (x : Span). x) (spans book)) ∙ map-id (spans book))

-- the sectors that a new entry adds to those of an item
pub credited_by : (book : List Entry) (doc : List ℕ) (act : Act) (item : Item) → IsBook book → judge book (record { doc = doc; act = act }) ≡ New → act_shape act ≡ true
    → credited (book ++ record { doc = doc; act = act } ∷ []) item ≡ credited book item ++ sectors_given book item act
credited_by book doc (Flown s) item h new shape =
    credited-more book (record { doc = doc; act = Flown s }) item h new
    ∙ ap (λ b. credited book item ++ cond b (s ∷ []) []) (newly_credited book doc s item)
credited_by book doc act item h new shape = credited-more book (record { doc = doc; act = act }) item h new
