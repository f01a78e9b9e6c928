-- What an entry changes of where components are fitted.
use Rattle.std.proofs.Common.{refl, sym, ap, subst, ◌∙◌, ◌≡◌, ℕ, List, [], ◌∷◌, ◌++◌, append-nil, Bool, true, false, cond, ◌&&◌, ◌||◌, Option, Some, None}
use Rattle.std.specs.Prelude.{find, is_none, map}
use Rattle.std.specs.List.{list_any, AllByRecursion}
use Rattle.std.specs.Option.{option_map, option_or}
use Rattle.std.specs.declared.cmp.Ordering.{Ordering}
use Rattle.std.specs.declared.cmp.Ordering.TheVariants.{Less, Equal, Greater}
use Rattle.std.specs.Ordering.{is_eq, nat_cmp, ordering_then}
use Rattle.std.specs.Cmp.Lexicographic.{slice_cmp}
use Rattle.std.proofs.lemmas.List.Folds.{find-append, list_any-append}
use Rattle.mx_book.specs.commands.Act.{Act, Entry, Added, Listed, Loaded, Opened, Flown, Fitted, Removed, Released, Deferred, Extended}
use Rattle.mx_book.specs.commands.Same.{same_text}
use Rattle.mx_book.specs.declared.commands.fitting.Fitting.{Fitting}
use Rattle.mx_book.specs.declared.commands.fitting.Removal.{Removal}
use Rattle.mx_book.proofs.CommandsProofs.SameLemmas.{text_same}
use Rattle.mx_book.specs.declared.verdict.Verdict.TheVariants.{New}
use Rattle.mx_book.specs.Book.{IsBook}
use Rattle.mx_book.specs.Judge.{judge}
use Rattle.mx_book.specs.Span.{Span, fitted, is_open_on, is_taken, span_begun, spans, tail_fitted}
use Rattle.mx_book.proofs.JudgeLemmas.{both_true}
use Rattle.mx_book.proofs.PassLemmas.{new-fitting}
use Rattle.mx_book.proofs.SpanLemmas.{one_component, removed_nowhere}
use Rattle.mx_registers.specs.kept.Changes.{ended_by}
use Rattle.mx_registers.proofs.KeptProofs.CreditLemmas.{all_of}
use Rattle.mx_registers.proofs.KeptProofs.PlaceLemmas.{fitted_kept, moves, only_found, open_is_fitted}
use Rattle.mx_registers.proofs.KeptProofs.SpanGrowth.{span_of, spans-more}
use Rattle.mx_indexed_book.specs.maps.Maps.{changed}
use Rattle.mx_indexed_book.specs.maps.Places.{component_moved, has_component, names_cmp, place_changed, place_of}
use Rattle.mx_indexed_book.proofs.MapsProofs.MapLemmas.{tie}
use Rattle.mx_indexed_book.proofs.MapsProofs.RegisterLemmas.{none_of}

-- ── where a component is fitted ──

unended : (act : Act) → ((s : Span) → ended_by act s ≡ s) → (p : Span → Bool) (xs : List Span) → find p (map (ended_by act) xs) ≡ find p xs
unended act h p [] = refl
unended act h p (x ∷ xs) = ap (λ (s : Span). cond (p s) (Some s) (find p (map (ended_by act) xs))) (h x) ∙ ap (λ o. cond (p x) (Some x) o) (unended act h p xs)

-- the aircraft of the place
pub tail_of_place : (book : List Entry) (serial : List ℕ) → tail_fitted book serial ≡ option_map (λ (p : List ℕ × List ℕ). p.0) (place_of book serial)
tail_of_place book serial = at (fitted book serial)
  where
    at : (o : Option Span) → option_map (λ (s : Span). s.tail) o ≡ option_map (λ (p : List ℕ × List ℕ). p.0) (option_map (λ (s : Span). (s.tail, s.position)) o)
    at None = refl
    at (Some s) = refl

pub just_fitted : (book : List Entry) (doc : List ℕ) (f : Fitting) → judge book (record { doc = doc; act = Fitted f }) ≡ New → place_of (book ++ record { doc = doc; act = Fitted f } ∷ []) f.serial ≡ Some (f.tail, f.position)
just_fitted book doc f new =
    let open_of : Span → Bool = λ s. same_text s.serial f.serial && is_none s.to in
    let none : fitted book f.serial ≡ None = none_of (fitted book f.serial) (new-fitting book (record { doc = doc; act = Fitted f }) f new refl).1 in
    ap (λ l. option_map (λ (s : Span). (s.tail, s.position)) (find open_of l)) (spans-more book (record { doc = doc; act = Fitted f }))
    ∙ ap (option_map (λ (s : Span). (s.tail, s.position))) (find-append open_of (map (ended_by (Fitted f)) (spans book)) (span_begun (Fitted f) []))
    ∙ ap (λ o. option_map (λ (s : Span). (s.tail, s.position)) (option_or o (find open_of (span_begun (Fitted f) [])))) (unended (Fitted f) (λ s. refl) open_of (spans book) ∙ none)
    ∙ ap (λ b. option_map (λ (s : Span). (s.tail, s.position)) (cond (b && true) (Some (span_of f [])) None)) ((text_same f.serial f.serial).1 refl)

kept : (book : List Entry) (entry : Entry) (serial : List ℕ) → moves entry.act serial ≡ false → place_of (book ++ entry ∷ []) serial ≡ place_of book serial
kept book entry serial m = ap (option_map (λ (s : Span). (s.tail, s.position))) (fitted_kept serial book entry m)

moved_to : (book more : List Entry) (name serial : List ℕ) (place : Option (List ℕ × List ℕ)) → place_of more name ≡ place → (same_text name serial ≡ false → place_of more serial ≡ place_of book serial)
    → place_of more serial ≡ changed (slice_cmp nat_cmp) (Some (name, place)) serial (place_of book serial)
moved_to book more name serial place there others = at (same_text name serial) refl ∙ ap (λ b. cond b place (place_of book serial)) (sym (tie name serial))
  where
    at : (b : Bool) → same_text name serial ≡ b → place_of more serial ≡ cond b place (place_of book serial)
    at true e = ap (place_of more) (sym ((text_same name serial).0 e)) ∙ there
    at false e = others e

component_by : (book : List Entry) (doc : List ℕ) (act : Act) → judge book (record { doc = doc; act = act }) ≡ New → (serial : List ℕ)
    → place_of (book ++ record { doc = doc; act = act } ∷ []) serial ≡ changed (slice_cmp nat_cmp) (component_moved act) serial (place_of book serial)
component_by book doc (Fitted f) new serial =
    moved_to book (book ++ record { doc = doc; act = Fitted f } ∷ []) f.serial serial (Some (f.tail, f.position)) (just_fitted book doc f new) (kept book (record { doc = doc; act = Fitted f }) serial)
component_by book doc (Removed r) new serial =
    moved_to book (book ++ record { doc = doc; act = Removed r } ∷ []) r.serial serial None
    (ap (option_map (λ (s : Span). (s.tail, s.position))) (removed_nowhere book doc r)) (kept book (record { doc = doc; act = Removed r }) serial)
component_by book doc act new serial = kept book (record { doc = doc; act = act }) serial refl

pub component_moves : (book : List Entry) (entry : Entry) → judge book entry ≡ New → (serial : List ℕ)
    → place_of (book ++ entry ∷ []) serial ≡ changed (slice_cmp nat_cmp) (component_moved entry.act) serial (place_of book serial)
component_moves book entry new = component_by book entry.doc entry.act new

-- ── whether a position is taken ──

pub then_eq : (a b : Ordering) → is_eq (ordering_then a b) ≡ is_eq a && is_eq b
then_eq Less b = refl
then_eq Equal b = refl
then_eq Greater b = refl

-- the order of two names tells the same two
pub tie_names : (a b : List ℕ × List ℕ) → is_eq (names_cmp a b) ≡ same_text a.0 b.0 && same_text a.1 b.1
tie_names a b = then_eq (slice_cmp nat_cmp a.0 b.0) (slice_cmp nat_cmp a.1 b.1) ∙ ap (λ c. c && is_eq (slice_cmp nat_cmp a.1 b.1)) (tie a.0 b.0) ∙ ap (λ c. same_text a.0 b.0 && c) (tie a.1 b.1)

module _ (tail position : List ℕ) where
  abbrev is_there : Span → Bool
  is_there s = is_open_on tail s && same_text s.position position

  unended_any : (act : Act) → ((s : Span) → ended_by act s ≡ s) → (xs : List Span) → list_any is_there (map (ended_by act) xs) ≡ list_any is_there xs
  unended_any act h [] = refl
  unended_any act h (x ∷ xs) = ap (λ (s : Span). is_there s || list_any is_there (map (ended_by act) xs)) (h x) ∙ ap (λ o. is_there x || o) (unended_any act h xs)

  or_false : (p : Bool) → p || false ≡ p
  or_false true = refl
  or_false false = refl

  none_begun : (book : List Entry) (entry : Entry) → ((s : Span) → ended_by entry.act s ≡ s) → span_begun entry.act [] ≡ [] → is_taken (book ++ entry ∷ []) tail position ≡ is_taken book tail position
  none_begun book entry h none =
      ap (list_any is_there) (spans-more book entry)
      ∙ list_any-append is_there (map (ended_by entry.act) (spans book)) (span_begun entry.act [])
      ∙ ap (λ l. list_any is_there (map (ended_by entry.act) (spans book)) || list_any is_there l) none
      ∙ or_false (list_any is_there (map (ended_by entry.act) (spans book)))
      ∙ unended_any entry.act h (spans book)

  either : (p a b : Bool) → p || (((a && true) && b) || false) ≡ cond (a && b) true p
  either true true true = refl
  either true true false = refl
  either true false b = refl
  either false true true = refl
  either false true false = refl
  either false false b = refl

  taken_by_fitting : (book : List Entry) (doc : List ℕ) (f : Fitting) → is_taken (book ++ record { doc = doc; act = Fitted f } ∷ []) tail position ≡ cond (same_text f.tail tail && same_text f.position position) true (is_taken book tail position)
  taken_by_fitting book doc f =
      ap (list_any is_there) (spans-more book (record { doc = doc; act = Fitted f }))
      ∙ list_any-append is_there (map (ended_by (Fitted f)) (spans book)) (span_begun (Fitted f) [])
      ∙ ap (λ b. b || list_any is_there (span_begun (Fitted f) [])) (unended_any (Fitted f) (λ s. refl) (spans book))
      ∙ either (is_taken book tail position) (same_text f.tail tail) (same_text f.position position)

  and_false : (p : Bool) → p && false ≡ false
  and_false true = refl
  and_false false = refl

  ended_is_not_there : (s : Span) (m : ℕ) → is_there (record s { to = Some m }) ≡ false
  ended_is_not_there s m = ap (λ b. b && same_text s.position position) (and_false (same_text s.tail tail))

  -- an ended span that is not there leaves what is
  others_stay : (r : Removal) (xs : List Span) → AllByRecursion (λ (s : Span). same_text s.serial r.serial && is_none s.to ≡ true → is_there s ≡ false) xs → list_any is_there (map (ended_by (Removed r)) xs) ≡ list_any is_there xs
  others_stay r [] h = refl
  others_stay r (x ∷ xs) h = at (is_none x.to) (same_text x.serial r.serial) refl refl ∙ ap (λ o. is_there x || o) (others_stay r xs h.1)
    where
      at : (n b : Bool) → is_none x.to ≡ n → same_text x.serial r.serial ≡ b → is_there (cond {A = Span} (n && b) (record x { to = Some r.moment }) x) || list_any is_there (map (ended_by (Removed r)) xs) ≡ is_there x || list_any is_there (map (ended_by (Removed r)) xs)
      at true true e f =
          let was : is_there x ≡ false = h.0 (ap (λ c. c && is_none x.to) f ∙ e) in
          ap (λ c. c || list_any is_there (map (ended_by (Removed r)) xs)) (ended_is_not_there x r.moment ∙ sym was)
      at true false e f = refl
      at false b e f = refl

  -- where each span that is there is of the component that is removed, none is left
  none_left : (r : Removal) (xs : List Span) → AllByRecursion (λ (s : Span). is_there s ≡ true → same_text s.serial r.serial && is_none s.to ≡ true) xs → list_any is_there (map (ended_by (Removed r)) xs) ≡ false
  none_left r [] h = refl
  none_left r (x ∷ xs) h = ap (λ c. c || list_any is_there (map (ended_by (Removed r)) xs)) (at (is_none x.to) (same_text x.serial r.serial) (is_there x) refl refl refl) ∙ none_left r xs h.1
    where
      at : (n b t : Bool) → is_none x.to ≡ n → same_text x.serial r.serial ≡ b → is_there x ≡ t → is_there (cond {A = Span} (n && b) (record x { to = Some r.moment }) x) ≡ false
      at true true t e f g = ended_is_not_there x r.moment
      at n b false e f g = at-not n b g
        where
          at-not : (n b : Bool) → is_there x ≡ false → is_there (cond {A = Span} (n && b) (record x { to = Some r.moment }) x) ≡ false
          at-not true true g = ended_is_not_there x r.moment
          at-not true false g = g
          at-not false b g = g
      at true false true e f g = let both = h.0 g in absurd (cc)
      at false b true e f g = let both = h.0 g in let shut : same_text x.serial r.serial && is_none x.to ≡ false = ap (λ c. same_text x.serial r.serial && c) e ∙ and_false (same_text x.serial r.serial) in absurd (cc)

pub found_passes : {X : Type 0} (p : X → Bool) (xs : List X) (x : X) → find p xs ≡ Some x → p x ≡ true
found_passes p [] x h = absurd (cc)
found_passes p (y ∷ xs) x h = at (p y) refl (found_passes p xs x) h
  where
    at : (b : Bool) → p y ≡ b → (find p xs ≡ Some x → p x ≡ true) → cond b (Some y) (find p xs) ≡ Some x → p x ≡ true
    at true e rest g = let same : y ≡ x = cc in ap p (sym same) ∙ e
    at false e rest g = rest g

pub all_found : {X : Type 0} (P : X → Type 0) (p : X → Bool) (xs : List X) (x : X) → AllByRecursion P xs → find p xs ≡ Some x → P x
all_found P p [] x all h = absurd (cc)
all_found P p (y ∷ xs) x all h = at (p y) (all_found P p xs x all.1) h
  where
    at : (b : Bool) → (find p xs ≡ Some x → P x) → cond b (Some y) (find p xs) ≡ Some x → P x
    at true rest g = let same : y ≡ x = cc in subst P same all.0
    at false rest g = rest g

module _ (tail position : List ℕ) (book : List Entry) (is_book : IsBook book) (r : Removal) where
  abbrev of_it : Span → Bool
  of_it s = same_text s.serial r.serial && is_none s.to

  abbrev here : Span → Bool
  here s = is_there tail position s

  untouched : (o : Option Span) → fitted book r.serial ≡ o → ((s : Span) → o ≡ Some s → here s ≡ false) → list_any here (map (ended_by (Removed r)) (spans book)) ≡ is_taken book tail position
  untouched o is apart =
      others_stay tail position r (spans book)
      (all_of (λ (s : Span). of_it s ≡ true → fitted book r.serial ≡ Some s) (λ (s : Span). of_it s ≡ true → here s ≡ false)
      (λ s only of. apart s (sym is ∙ only of)) (spans book) (open_is_fitted book r.serial is_book))

  emptied : (s : Span) → fitted book r.serial ≡ Some s → here s ≡ true → list_any here (map (ended_by (Removed r)) (spans book)) ≡ false
  emptied s is there =
      let only = only_found here (spans book) (one_component book tail position is_book) in
      let one : find here (spans book) ≡ Some s = all_found (λ (x : Span). here x ≡ true → find here (spans book) ≡ Some x) of_it (spans book) s only is there in
      let of : of_it s ≡ true = found_passes of_it (spans book) s is in
      none_left tail position r (spans book)
      (all_of (λ (x : Span). here x ≡ true → find here (spans book) ≡ Some x) (λ (x : Span). here x ≡ true → of_it x ≡ true)
      (λ x found h. let same : s ≡ x = let e = found h in cc in ap of_it (sym same) ∙ of) (spans book) only)

  open_there : (s : Span) (a b : Bool) → is_none s.to ≡ true → same_text s.tail tail ≡ a → same_text s.position position ≡ b → here s ≡ a && b
  open_there s a b e f g =
      ap (λ n. (same_text s.tail tail && n) && same_text s.position position) e
      ∙ ap (λ c. (c && true) && same_text s.position position) f ∙ ap (λ c. (a && true) && c) g ∙ and_skip a b
    where
      and_skip : (a b : Bool) → (a && true) && b ≡ a && b
      and_skip true b = refl
      and_skip false b = refl

  by_removal : (o : Option Span) → fitted book r.serial ≡ o → list_any here (map (ended_by (Removed r)) (spans book))
      ≡ changed names_cmp (option_map (λ (place : List ℕ × List ℕ). (place, false)) (option_map (λ (s : Span). (s.tail, s.position)) o)) (tail, position) (is_taken book tail position)
  by_removal None is = untouched None is (λ s none. absurd (cc))
  by_removal (Some s) is = at (same_text s.tail tail && same_text s.position position) (open_there s (same_text s.tail tail) (same_text s.position position) (both_true (same_text s.serial r.serial) (is_none s.to) (found_passes of_it (spans book) s is)).1 refl refl)
      ∙ ap (λ b. cond b false (is_taken book tail position)) (sym (tie_names (s.tail, s.position) (tail, position)))
    where
      at : (b : Bool) → here s ≡ b → list_any here (map (ended_by (Removed r)) (spans book)) ≡ cond b false (is_taken book tail position)
      at true there = emptied s is there
      at false apart = untouched (Some s) is (λ x same. let one : s ≡ x = cc in ap here (sym one) ∙ apart)

place_by : (tail position : List ℕ) (book : List Entry) → IsBook book → (doc : List ℕ) (act : Act) → is_taken (book ++ record { doc = doc; act = act } ∷ []) tail position ≡ changed names_cmp (place_changed book act) (tail, position) (is_taken book tail position)
place_by tail position book b doc (Fitted f) =
    taken_by_fitting tail position book doc f ∙ ap (λ c. cond c true (is_taken book tail position)) (sym (tie_names (f.tail, f.position) (tail, position)))
place_by tail position book b doc (Removed r) =
    ap (list_any (is_there tail position)) (spans-more book (record { doc = doc; act = Removed r }))
    ∙ ap (list_any (is_there tail position)) (append-nil (map (ended_by (Removed r)) (spans book)))
    ∙ by_removal tail position book b r (fitted book r.serial) refl
place_by tail position book b doc (Added a positions) = none_begun tail position book (record { doc = doc; act = Added a positions }) (λ s. refl) refl
place_by tail position book b doc (Listed c) = none_begun tail position book (record { doc = doc; act = Listed c }) (λ s. refl) refl
place_by tail position book b doc (Loaded p tasks) = none_begun tail position book (record { doc = doc; act = Loaded p tasks }) (λ s. refl) refl
place_by tail position book b doc (Opened o) = none_begun tail position book (record { doc = doc; act = Opened o }) (λ s. refl) refl
place_by tail position book b doc (Flown s) = none_begun tail position book (record { doc = doc; act = Flown s }) (λ s. refl) refl
place_by tail position book b doc (Released r lines) = none_begun tail position book (record { doc = doc; act = Released r lines }) (λ s. refl) refl
place_by tail position book b doc (Deferred d) = none_begun tail position book (record { doc = doc; act = Deferred d }) (λ s. refl) refl
place_by tail position book b doc (Extended x) = none_begun tail position book (record { doc = doc; act = Extended x }) (λ s. refl) refl

pub place_moves : (book : List Entry) (entry : Entry) → IsBook book → (place : List ℕ × List ℕ)
    → has_component (book ++ entry ∷ []) place ≡ changed names_cmp (place_changed book entry.act) place (has_component book place)
place_moves book entry b place = place_by place.0 place.1 book b entry.doc entry.act
