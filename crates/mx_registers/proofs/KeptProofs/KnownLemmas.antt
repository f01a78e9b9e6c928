-- What a book names is in it.
use Rattle.std.proofs.Common.{refl, sym, subst, ap, ◌∙◌, ◌≡◌, ℕ, List, [], ◌∷◌, ◌++◌, Bool, true, false, cond, Option, Some, None}
use Rattle.std.specs.Prelude.{find, filter, is_some, map}
use Rattle.std.specs.List.{list_any, cons_option, AllByRecursion}
use Rattle.std.specs.Option.{option_or}
use Rattle.std.proofs.lemmas.List.Elements.{filter_map-append}
use Rattle.std.proofs.lemmas.List.Folds.{find-append}
use Rattle.mx_book.specs.commands.Act.{Act, Entry, Flown, Fitted, sector_of, aircraft_of, component_of}
use Rattle.mx_book.specs.commands.Same.{same_text}
use Rattle.mx_book.specs.declared.commands.aircraft.Aircraft.{Aircraft}
use Rattle.mx_book.specs.declared.commands.component.Component.{Component as ComponentAdded}
use Rattle.mx_book.specs.declared.commands.item.Item.{Item}
use Rattle.mx_book.specs.declared.commands.item.Item.TheVariants.{Airframe, Component}
use Rattle.mx_book.specs.declared.commands.sector.Sector.{Sector}
use Rattle.mx_book.proofs.CommandsProofs.SameLemmas.{text_same}
use Rattle.mx_book.specs.Register.{register, aircraft, component}
use Rattle.mx_book.specs.Book.{IsBook, is_new}
use Rattle.mx_book.specs.Judge.{judge}
use Rattle.mx_book.specs.Span.{Span, span_begun, spans, spans_of}
use Rattle.mx_book.specs.Life.{is_within, is_credited, credited}
use Rattle.mx_registers.proofs.NewLemmas.{flown_is_known, fitted_is_known}
use Rattle.mx_registers.specs.kept.Changes.{ended_by}
use Rattle.mx_registers.proofs.KeptProofs.SpanGrowth.{spans-more}
use Rattle.mx_registers.proofs.KeptProofs.CreditLemmas.{kept_by, all_of, serial_kept}
use Rattle.mx_registers.proofs.KeptProofs.Induction.{of_each_book}
use Rattle.mx_registers.specs.Names.{has_item}

some_or : {X : Type 0} (o p : Option X) → is_some o ≡ true → option_or o p ≡ o
some_or None p h = (cc)
some_or (Some x) p h = refl

-- an aircraft that is found stays the one that is found
pub aircraft-more : (book more : List Entry) (tail : List ℕ) → aircraft (book ++ more) tail ≡ option_or (aircraft book tail) (aircraft more tail)
aircraft-more book more tail =
    ap (find (λ (b : Aircraft). same_text b.tail tail)) (filter_map-append (λ (e : Entry). aircraft_of e.act) book more)
    ∙ find-append (λ (b : Aircraft). same_text b.tail tail) (register aircraft_of book) (register aircraft_of more)

pub component-more : (book more : List Entry) (serial : List ℕ) → component (book ++ more) serial ≡ option_or (component book serial) (component more serial)
component-more book more serial =
    ap (find (λ (b : ComponentAdded). same_text b.serial serial)) (filter_map-append (λ (e : Entry). component_of e.act) book more)
    ∙ find-append (λ (b : ComponentAdded). same_text b.serial serial) (register component_of book) (register component_of more)

pub aircraft_kept : (book more : List Entry) (tail : List ℕ) → is_some (aircraft book tail) ≡ true → aircraft (book ++ more) tail ≡ aircraft book tail
aircraft_kept book more tail h = aircraft-more book more tail ∙ some_or (aircraft book tail) (aircraft more tail) h

pub component_kept : (book more : List Entry) (serial : List ℕ) → is_some (component book serial) ≡ true → component (book ++ more) serial ≡ component book serial
component_kept book more serial h = component-more book more serial ∙ some_or (component book serial) (component more serial) h

-- an item that the book has stays there
pub item_kept : (book more : List Entry) (item : Item) → has_item book item ≡ true → has_item (book ++ more) item ≡ true
item_kept book more (Airframe tail) h = ap is_some (aircraft_kept book more tail h) ∙ h
item_kept book more (Component serial) h = ap is_some (component_kept book more serial h) ∙ h

pub all_append : {X : Type 0} (P : X → Type 0) (xs ys : List X) → AllByRecursion P xs → AllByRecursion P ys → AllByRecursion P (xs ++ ys)
all_append P [] ys h k = k
all_append P (x ∷ xs) ys h k = (h.0, all_append P xs ys h.1 k)

all_map : {X Y : Type 0} (f : X → Y) (P : Y → Type 0) (xs : List X) → AllByRecursion (λ x. P (f x)) xs → AllByRecursion P (map f xs)
all_map f P [] h = tt
all_map f P (x ∷ xs) h = (h.0, all_map f P xs h.1)

-- ── each span is of a component, and each sector of an aircraft ──

-- the component and the aircraft of the span are in the book
abbrev pub KnowsSpan : List Entry → Span → Type 0
KnowsSpan book s = (is_some (component book s.serial) ≡ true) × (is_some (aircraft book s.tail) ≡ true)

abbrev KnowsSpans : List Entry → Type 0
KnowsSpans book = AllByRecursion (KnowsSpan book) (spans book)

begun_known : (book : List Entry) (doc : List ℕ) (act : Act) → is_new (judge book (record { doc = doc; act = act })) ≡ true → AllByRecursion (KnowsSpan book) (span_begun act [])
begun_known book doc (Fitted f) new = let h = fitted_is_known book doc f new in ((h.1, h.0), tt)
begun_known book doc _ new = tt

tail_kept : (act : Act) (x : Span) → (ended_by act x).tail ≡ x.tail
tail_kept = kept_by (λ (x : Span). x.tail) (λ _ _. refl)

-- each span of a book is of a component and of an aircraft that it has
pub spans_named : (book : List Entry) → IsBook book → AllByRecursion (KnowsSpan book) (spans book)
spans_named = of_each_book KnowsSpans (λ book e b shape new known.
    let stays : (s : Span) → KnowsSpan book s → KnowsSpan (book ++ e ∷ []) s = λ s h. (ap is_some (component_kept book (e ∷ []) s.serial h.0) ∙ h.0, ap is_some (aircraft_kept book (e ∷ []) s.tail h.1) ∙ h.1) in
    subst (AllByRecursion (KnowsSpan (book ++ e ∷ []))) (sym (spans-more book e))
    (all_append (KnowsSpan (book ++ e ∷ [])) (map (ended_by e.act) (spans book)) (span_begun e.act [])
    (all_map (ended_by e.act) (KnowsSpan (book ++ e ∷ [])) (spans book)
    (all_of (KnowsSpan book) (λ (s : Span). KnowsSpan (book ++ e ∷ []) (ended_by e.act s))
    (λ s h. let k = stays s h in (ap (λ (t : List ℕ). is_some (component (book ++ e ∷ []) t)) (serial_kept e.act s) ∙ k.0, ap (λ (t : List ℕ). is_some (aircraft (book ++ e ∷ []) t)) (tail_kept e.act s) ∙ k.1)) (spans book) known))
    (all_of (KnowsSpan book) (KnowsSpan (book ++ e ∷ [])) stays (span_begun e.act []) (begun_known book e.doc e.act (ap is_new new))))) tt

pub spans_known : (book : List Entry) → IsBook book → AllByRecursion (λ (s : Span). is_some (component book s.serial) ≡ true) (spans book)
spans_known book b = all_of (KnowsSpan book) (λ (s : Span). is_some (component book s.serial) ≡ true) (λ s h. h.0) (spans book) (spans_named book b)

pub spans_placed : (book : List Entry) → IsBook book → AllByRecursion (λ (s : Span). is_some (aircraft book s.tail) ≡ true) (spans book)
spans_placed book b = all_of (KnowsSpan book) (λ (s : Span). is_some (aircraft book s.tail) ≡ true) (λ s h. h.1) (spans book) (spans_named book b)

abbrev pub KnowsSectors : List Entry → Type 0
KnowsSectors book = AllByRecursion (λ (s : Sector). is_some (aircraft book s.tail) ≡ true) (register sector_of book)

flown_known : (book : List Entry) (doc : List ℕ) (act : Act) → is_new (judge book (record { doc = doc; act = act })) ≡ true → AllByRecursion (λ (s : Sector). is_some (aircraft book s.tail) ≡ true) (cons_option (sector_of act) [])
flown_known book doc (Flown s) new = (flown_is_known book doc s new, tt)
flown_known book doc _ new = tt

pub sectors_known : (book : List Entry) → IsBook book → KnowsSectors book
sectors_known = of_each_book KnowsSectors (λ book e b shape new known.
    let stays : (s : Sector) → is_some (aircraft book s.tail) ≡ true → is_some (aircraft (book ++ e ∷ []) s.tail) ≡ true = λ s h. ap is_some (aircraft_kept book (e ∷ []) s.tail h) ∙ h in
    subst (λ l. AllByRecursion (λ (s : Sector). is_some (aircraft (book ++ e ∷ []) s.tail) ≡ true) l) (sym (filter_map-append (λ (x : Entry). sector_of x.act) book (e ∷ [])))
    (all_append (λ (s : Sector). is_some (aircraft (book ++ e ∷ []) s.tail) ≡ true) (register sector_of book) (register sector_of (e ∷ []))
    (all_of (λ (s : Sector). is_some (aircraft book s.tail) ≡ true) (λ (s : Sector). is_some (aircraft (book ++ e ∷ []) s.tail) ≡ true) stays (register sector_of book) known)
    (all_of (λ (s : Sector). is_some (aircraft book s.tail) ≡ true) (λ (s : Sector). is_some (aircraft (book ++ e ∷ []) s.tail) ≡ true) stays (register sector_of (e ∷ [])) (flown_known book e.doc e.act (ap is_new new))))) tt

-- ── an item that is not in the book has no sectors there ──

filter_none : {X : Type 0} (p : X → Bool) (xs : List X) → AllByRecursion (λ x. p x ≡ false) xs → filter p xs ≡ []
filter_none p [] h = refl
filter_none p (x ∷ xs) h = ap (λ b. cond b (x ∷ filter p xs) (filter p xs)) h.0 ∙ filter_none p xs h.1

-- what is named is not what is not in the book
pub other_name : (known : List ℕ → Bool) (a b : List ℕ) → known a ≡ true → known b ≡ false → same_text a b ≡ false
other_name known a b h k = at (same_text a b) refl
  where
    at : (c : Bool) → same_text a b ≡ c → c ≡ false
    at true e = let same = (text_same a b).0 e in let t = ap known same in (cc)
    at false e = refl

all_false : {X : Type 0} (p : X → Bool) → ((x : X) → p x ≡ false) → (xs : List X) → AllByRecursion (λ x. p x ≡ false) xs
all_false p each [] = tt
all_false p each (x ∷ xs) = (each x, all_false p each xs)

pub unknown_uncredited : (book : List Entry) (item : Item) → IsBook book → has_item book item ≡ false → credited book item ≡ []
unknown_uncredited book (Airframe tail) b h =
    filter_none (is_credited book (Airframe tail)) (register sector_of book)
    (all_of (λ (s : Sector). is_some (aircraft book s.tail) ≡ true) (λ (s : Sector). is_credited book (Airframe tail) s ≡ false)
    (λ s k. other_name (λ (t : List ℕ). is_some (aircraft book t)) s.tail tail k h) (register sector_of book) (sectors_known book b))
unknown_uncredited book (Component serial) b h =
    let none : spans_of book serial ≡ [] = filter_none (λ (s : Span). same_text s.serial serial) (spans book)
    (all_of (λ (s : Span). is_some (component book s.serial) ≡ true) (λ (s : Span). same_text s.serial serial ≡ false)
    (λ s k. other_name (λ (t : List ℕ). is_some (component book t)) s.serial serial k h) (spans book) (spans_known book b)) in
    filter_none (is_credited book (Component serial)) (register sector_of book) (all_false (is_credited book (Component serial)) (λ s. ap (list_any (is_within s)) none) (register sector_of book))
