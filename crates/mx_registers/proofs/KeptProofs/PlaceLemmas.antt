-- Where components are fitted: the one open span of each, and whether it is of an aircraft.
use Rattle.std.proofs.Common.{arith, refl, sym, ap, ◌∙◌, ◌≡◌, ℕ, ◌≤◌, length, List, [], ◌∷◌, ◌++◌, Bool, true, false, cond, ◌&&◌, ◌||◌, Option, Some, None}
use Rattle.std.specs.Prelude.{find, filter, is_none, map}
use Rattle.std.specs.List.{list_any, AllByRecursion}
use Rattle.std.specs.Option.{option_map, option_map_or, option_or}
use Rattle.std.proofs.lemmas.List.Folds.{find-append}
use Rattle.mx_book.specs.commands.Act.{Act, Entry, Fitted, Removed}
use Rattle.mx_book.specs.commands.Same.{same_text}
use Rattle.mx_book.proofs.CommandsProofs.SameLemmas.{text_same}
use Rattle.mx_book.specs.Book.{IsBook}
use Rattle.mx_book.specs.Span.{Span, spans, spans_of, span_begun, fitted, is_open_on, is_fitted_to}
use Rattle.mx_book.proofs.SpanLemmas.{one_place}
use Rattle.mx_registers.specs.kept.Changes.{ended_by}
use Rattle.mx_registers.proofs.KeptProofs.SpanGrowth.{span_of, spans-more}

-- ── lists of which at most one element passes a test ──

module _ {X : Type 0} (p : X → Bool) where
  none_pass : (xs : List X) → length (filter p xs) ≡ 0 → AllByRecursion (λ x. p x ≡ false) xs
  none_pass [] h = tt
  none_pass (x ∷ xs) h = at (none_pass xs) (p x) refl h
    where
      at : (length (filter p xs) ≡ 0 → AllByRecursion (λ x. p x ≡ false) xs) → (b : Bool) → p x ≡ b → length (cond b (x ∷ filter p xs) (filter p xs)) ≡ 0 → AllByRecursion (λ x. p x ≡ false) (x ∷ xs)
      at rest true e n = absurd (omega arith)
      at rest false e n = (e, rest n)

  missed : (y : X) (xs : List X) → AllByRecursion (λ x. p x ≡ false) xs → AllByRecursion (λ x. p x ≡ true → Some y ≡ Some x) xs
  missed y [] h = tt
  missed y (x ∷ xs) h = (λ t. let f = h.0 in (cc), missed y xs h.1)

  -- the only element that passes is the one that is found
  pub only_found : (xs : List X) → length (filter p xs) ≤ 1 → AllByRecursion (λ x. p x ≡ true → find p xs ≡ Some x) xs
  only_found [] h = tt
  only_found (x ∷ xs) h = at (only_found xs) (p x) refl h
    where
      at : (length (filter p xs) ≤ 1 → AllByRecursion (λ x. p x ≡ true → find p xs ≡ Some x) xs) → (b : Bool) → p x ≡ b → length (cond b (x ∷ filter p xs) (filter p xs)) ≤ 1 → (p x ≡ true → cond b (Some x) (find p xs) ≡ Some x) × AllByRecursion (λ y. p y ≡ true → cond b (Some x) (find p xs) ≡ Some y) xs
      at rest true e n = let none : length (filter p xs) ≡ 0 = omega arith in (λ t. refl, missed x xs (none_pass xs none))
      at rest false e n = (λ t. (cc), rest n)

  pub none_find : (xs : List X) → length (filter p xs) ≡ 0 → find p xs ≡ None
  none_find [] h = refl
  none_find (x ∷ xs) h = at (none_find xs) (p x) h
    where
      at : (length (filter p xs) ≡ 0 → find p xs ≡ None) → (b : Bool) → length (cond b (x ∷ filter p xs) (filter p xs)) ≡ 0 → cond b (Some x) (find p xs) ≡ None
      at rest true n = absurd (omega arith)
      at rest false n = rest n

-- ── where a component is fitted ──

and_or : (t : Bool) → (t && true) || false ≡ t
and_or true = refl
and_or false = refl

and_skip : (t a : Bool) → (t && false) || a ≡ a
and_skip true a = refl
and_skip false a = refl

module _ (tail serial : List ℕ) where
  abbrev is_of : Span → Bool
  is_of s = same_text s.serial serial

  abbrev is_open_of : Span → Bool
  is_open_of s = is_of s && is_none s.to

  abbrev is_there : Option Span → Bool
  is_there o = option_map_or (λ t. same_text t tail) (option_map (λ (s : Span). s.tail) o) false

  any_open : (xs : List Span) → length (filter is_open_of xs) ≤ 1 → list_any (is_open_on tail) (filter is_of xs) ≡ is_there (find is_open_of xs)
  any_open [] h = refl
  any_open (x ∷ xs) h = at (any_open xs) (is_of x) (is_none x.to) refl h
    where
      at : (length (filter is_open_of xs) ≤ 1 → list_any (is_open_on tail) (filter is_of xs) ≡ is_there (find is_open_of xs)) → (b n : Bool) → is_none x.to ≡ n → length (cond (b && n) (x ∷ filter is_open_of xs) (filter is_open_of xs)) ≤ 1
          → list_any (is_open_on tail) (cond b (x ∷ filter is_of xs) (filter is_of xs)) ≡ is_there (cond (b && n) (Some x) (find is_open_of xs))
      at ih true true e h =
          let none : length (filter is_open_of xs) ≡ 0 = omega arith in
          let rest : list_any (is_open_on tail) (filter is_of xs) ≡ false = ih (omega arith) ∙ ap is_there (none_find is_open_of xs none) in
          ap (λ m. (same_text x.tail tail && m) || list_any (is_open_on tail) (filter is_of xs)) e
          ∙ ap (λ a. (same_text x.tail tail && true) || a) rest ∙ and_or (same_text x.tail tail)
      at ih true false e h =
          ap (λ m. (same_text x.tail tail && m) || list_any (is_open_on tail) (filter is_of xs)) e
          ∙ and_skip (same_text x.tail tail) (list_any (is_open_on tail) (filter is_of xs)) ∙ ih h
      at ih false n e h = ih h

-- a component has an open span on an aircraft exactly where it is fitted to it
pub open_where_fitted : (book : List Entry) (tail serial : List ℕ) → IsBook book → list_any (is_open_on tail) (spans_of book serial) ≡ is_fitted_to book tail serial
open_where_fitted book tail serial h = any_open tail serial (spans book) (one_place book serial h)

-- an open span of a component is where the component is fitted
pub open_is_fitted : (book : List Entry) (serial : List ℕ) → IsBook book → AllByRecursion (λ s. same_text s.serial serial && is_none s.to ≡ true → fitted book serial ≡ Some s) (spans book)
open_is_fitted book serial h = only_found (λ s. same_text s.serial serial && is_none s.to) (spans book) (one_place book serial h)

-- ── where a component is fitted after one entry more ──

-- the entry fits the component, or removes it
abbrev pub moves : Act → List ℕ → Bool
moves (Fitted f) serial = same_text f.serial serial
moves (Removed r) serial = same_text r.serial serial
moves _ serial = false

module _ (serial : List ℕ) where
  abbrev found : List Span → Option Span
  found xs = find (λ (s : Span). same_text s.serial serial && is_none s.to) xs

  not_ended : (act : Act) → moves act serial ≡ false → (xs : List Span) → found (map (ended_by act) xs) ≡ found xs
  not_ended act m [] = refl
  not_ended (Removed r) m (x ∷ xs) = at (is_none x.to) (same_text x.serial r.serial) refl refl (not_ended (Removed r) m xs)
    where
      other : same_text x.serial r.serial ≡ true → same_text x.serial serial ≡ false
      other h = let e : x.serial ≡ r.serial = (text_same x.serial r.serial).0 h in ap (λ (t : List ℕ). same_text t serial) e ∙ m

      at : (n b : Bool) → is_none x.to ≡ n → same_text x.serial r.serial ≡ b → found (map (ended_by (Removed r)) xs) ≡ found xs
          → found ((cond {A = Span} (n && b) (record x { to = Some r.moment }) x) ∷ map (ended_by (Removed r)) xs) ≡ found (x ∷ xs)
      at true true e f rest =
          ap (λ c. cond (c && false) (Some (record x { to = Some r.moment })) (found (map (ended_by (Removed r)) xs))) (other f)
          ∙ rest ∙ sym (ap (λ c. cond (c && is_none x.to) (Some x) (found xs)) (other f))
      at true false e f rest = ap (λ o. cond (same_text x.serial serial && is_none x.to) (Some x) o) rest
      at false b e f rest = ap (λ o. cond (same_text x.serial serial && is_none x.to) (Some x) o) rest
  not_ended act m (x ∷ xs) = ap (λ o. cond (same_text x.serial serial && is_none x.to) (Some x) o) (not_ended act m xs)

  not_begun : (act : Act) → moves act serial ≡ false → found (span_begun act []) ≡ None
  not_begun (Fitted f) m = ap (λ c. cond (c && true) (Some (span_of f [])) None) m
  not_begun _ m = refl

  or_none : (o : Option Span) → option_or o None ≡ o
  or_none None = refl
  or_none (Some n) = refl

  -- a component that an entry does not move is fitted where it was
  pub fitted_kept : (book : List Entry) (e : Entry) → moves e.act serial ≡ false → fitted (book ++ e ∷ []) serial ≡ fitted book serial
  fitted_kept book e m =
      ap found (spans-more book e)
      ∙ find-append (λ (s : Span). same_text s.serial serial && is_none s.to) (map (ended_by e.act) (spans book)) (span_begun e.act [])
      ∙ ap (option_or (found (map (ended_by e.act) (spans book)))) (not_begun e.act m)
      ∙ or_none (found (map (ended_by e.act) (spans book))) ∙ not_ended e.act m (spans book)
