-- What a sector straddles, by the rows of the spans and of the releases.
use Rattle.std.proofs.Common.{arith, refl, sym, subst, ap, ◌∙◌, ◌≡◌, ℕ, ◌+◌, ◌≤◌, length, List, [], ◌∷◌, ◌++◌, Bool, true, false, cond, nat_eq, ◌&&◌, Option, Some, None, append_assoc, append-nil, length-append}
use Rattle.std.specs.Prelude.{min, find, filter, is_none, is_some, map, IfSome}
use Rattle.std.specs.List.{flat_map, AllByRecursion}
use Rattle.std.specs.Option.{option_map, option_or, option_and_then}
use Rattle.std.proofs.lemmas.List.{map-id}
use Rattle.std.proofs.lemmas.List.Concat.{flat_map-append}
use Rattle.std.proofs.lemmas.List.Folds.{find-append}
use Rattle.mx_book.specs.commands.Act.{Act, Entry, Fitted, Removed, Released}
use Rattle.mx_book.specs.commands.Same.{same_text}
use Rattle.mx_book.specs.declared.commands.release.Line.{Line}
use Rattle.mx_book.specs.declared.commands.release.Place.{Place}
use Rattle.mx_book.specs.declared.commands.release.Place.TheVariants as places
use Rattle.mx_book.specs.declared.commands.release.Release.{Release}
use Rattle.mx_book.specs.declared.commands.sector.Sector.{Sector}
use Rattle.mx_book.specs.declared.verdict.Verdict.TheVariants.{New}
use Rattle.mx_book.specs.Register.{aircraft, component}
use Rattle.mx_book.specs.Book.{IsBook, is_new, is_book_from}
use Rattle.mx_book.specs.Judge.{judge, item_at}
use Rattle.mx_book.specs.Late.{is_during, first_straddled}
use Rattle.mx_book.specs.Span.{Span, first_removal, span_begun, spans, fitted, tail_fitted}
use Rattle.mx_book.proofs.JudgeLemmas.{both_true}
use Rattle.mx_registers.specs.Names.{or_zero, seq_of_tail, seq_of_serial, has_item}
use Rattle.mx_registers.specs.Registers.{next, release_rows, releases_by}
use Rattle.mx_base.specs.declared.rows.rows.ReleaseRow.{ReleaseRow}
use Rattle.mx_registers.proofs.NameLemmas.{tail_known, serial_known}
use Rattle.mx_registers.proofs.NewLemmas.{fitted_is_known, removed_is_known, released_is_known}
use Rattle.mx_registers.proofs.RegisterLemmas.{gives-more}
use Rattle.mx_base.specs.declared.rows.rows.SpanRow.{SpanRow}
use Rattle.mx_registers.specs.late.Crossings.{sooner, least, crossed_end, crossed_in, crossed_by, crossed_numbers}
use Rattle.mx_registers.specs.kept.Spans.{span_row, span_rows, span_rows_from, span_ended, spans_opened}
use Rattle.mx_registers.proofs.LateProofs.CrossingLemmas.{Crossing, crossing_at, crossings_by, crossings, crossed_among, straddle_rows}
use Rattle.mx_registers.proofs.KeptProofs.Induction.{of_each_book}
use Rattle.mx_registers.proofs.KeptProofs.ItemNumbers.{other_number}
use Rattle.mx_registers.proofs.KeptProofs.KnownLemmas.{component_kept}
use Rattle.mx_registers.proofs.KeptProofs.NumbersThere.{tail_number_kept, eq_swap}
use Rattle.mx_registers.proofs.KeptProofs.PlaceLemmas.{open_is_fitted}
use Rattle.mx_registers.proofs.KeptProofs.SpanGrowth.{span_of}
use Rattle.mx_registers.proofs.KeptProofs.SpanRegisters.{is_open_row, open_alike, some_open}
use Rattle.mx_registers.proofs.KeptProofs.SpanRows.{serial_number_kept, one_number, row_to, span_rows-more}

-- ── the least of numbers ──

pub sooner_none : (o : Option ℕ) → sooner o None ≡ o
sooner_none None = refl
sooner_none (Some n) = refl

pub sooner_assoc : (x y z : Option ℕ) → sooner (sooner x y) z ≡ sooner x (sooner y z)
sooner_assoc None y z = refl
sooner_assoc (Some n) None z = refl
sooner_assoc (Some n) (Some m) None = refl
sooner_assoc (Some n) (Some m) (Some k) = let e : min (min n m) k ≡ min n (min m k) = omega arith in ap (λ (j : ℕ). Some j) e

sooner_swap : (x y : Option ℕ) → sooner x y ≡ sooner y x
sooner_swap None y = sym (sooner_none y)
sooner_swap (Some n) None = refl
sooner_swap (Some n) (Some m) = let e : min n m ≡ min m n = omega arith in ap (λ (j : ℕ). Some j) e

pub least-append : (xs ys : List ℕ) → least (xs ++ ys) ≡ sooner (least xs) (least ys)
least-append [] ys = refl
least-append (x ∷ xs) ys = ap (sooner (Some x)) (least-append xs ys) ∙ sym (sooner_assoc (Some x) (least xs) (least ys))

-- ── the open row of a component is at the aircraft that it is fitted to ──

both : (p q : Bool) → p && q ≡ true → (p ≡ true) × (q ≡ true)
both true true h = (refl, refl)
both true false h = (cc)
both false q h = (cc)

module _ (whole : List Entry) (serial : List ℕ) (c : ℕ) (known : is_some (component whole serial) ≡ true) (number : c ≡ or_zero (seq_of_serial whole serial)) where
  abbrev place : ℕ
  place = or_zero (option_and_then (seq_of_tail whole) (tail_fitted whole serial))

  open_at : (before later : List Entry) → is_book_from before later ≡ true → before ++ later ≡ whole → AllByRecursion (λ (x : Span). same_text x.serial serial && is_none x.to ≡ true → fitted whole serial ≡ Some x) (spans later)
      → AllByRecursion (λ (row : SpanRow). is_open_row c row ≡ true → row.aircraft ≡ place) (span_rows_from before later)
  open_at before [] h same only = tt
  open_at before (x ∷ later) h same only =
      let both = both_true (is_new (judge before x)) (is_book_from (before ++ x ∷ []) later) h in
      at x.act both.0 only (λ rest. open_at (before ++ x ∷ []) later both.1 (append_assoc before (x ∷ []) later ∙ same) rest)
    where
      at : (act : Act) → is_new (judge before (record { doc = x.doc; act = act })) ≡ true → AllByRecursion (λ (x : Span). same_text x.serial serial && is_none x.to ≡ true → fitted whole serial ≡ Some x) (span_begun act later ++ spans later)
          → (AllByRecursion (λ (x : Span). same_text x.serial serial && is_none x.to ≡ true → fitted whole serial ≡ Some x) (spans later) → AllByRecursion (λ (row : SpanRow). is_open_row c row ≡ true → row.aircraft ≡ place) (span_rows_from (before ++ x ∷ []) later))
          → AllByRecursion (λ (row : SpanRow). is_open_row c row ≡ true → row.aircraft ≡ place) (map (span_row before later) (span_begun act later) ++ span_rows_from (before ++ x ∷ []) later)
      at (Fitted f) new only rest =
          let names = fitted_is_known before x.doc f new in
          let then : is_some (component whole f.serial) ≡ true = subst (λ (es : List Entry). is_some (component es f.serial) ≡ true) same (ap is_some (component_kept before (x ∷ later) f.serial names.1) ∙ names.1) in
          let same_number : or_zero (seq_of_serial whole f.serial) ≡ or_zero (seq_of_serial before f.serial) = ap (λ (es : List Entry). or_zero (seq_of_serial es f.serial)) (sym same) ∙ serial_number_kept before (x ∷ later) f.serial names.1 in
          let own : nat_eq (or_zero (seq_of_serial before f.serial)) c ≡ same_text f.serial serial =
          ap (nat_eq (or_zero (seq_of_serial before f.serial))) number ∙ ap (λ m. nat_eq m (or_zero (seq_of_serial whole serial))) (sym same_number) ∙ one_number whole f.serial serial then known in
          let tail : or_zero (seq_of_tail whole f.tail) ≡ or_zero (seq_of_tail before f.tail) = ap (λ (es : List Entry). or_zero (seq_of_tail es f.tail)) (sym same) ∙ tail_number_kept before (x ∷ later) f.tail names.0 in (
            (λ h.
                let parts = both (is_none (first_removal f.serial later)) (nat_eq (or_zero (seq_of_serial before f.serial)) c) h in
                let here : same_text f.serial serial && is_none (first_removal f.serial later) ≡ true = ap (λ b. b && is_none (first_removal f.serial later)) (sym own ∙ parts.1) ∙ parts.0 in
                sym (ap (λ (o : Option Span). or_zero (option_and_then (seq_of_tail whole) (option_map (λ (y : Span). y.tail) o))) (only.0 here) ∙ tail)),
            rest only.1,
          )
      at _ new only rest = rest only

-- ── one entry more ──

module _ (a : ℕ) (s : Sector) where
  abbrev in_spans : List SpanRow → List ℕ
  in_spans rows = flat_map (crossed_in a s) rows

  abbrev in_releases : List ReleaseRow → List ℕ
  in_releases rows = flat_map (crossed_by a s) rows

  found_one : (t : Bool) (row : Crossing) → least (cond t (row.seq ∷ []) []) ≡ option_map (λ (r : Crossing). r.seq) (cond t (Some row) None)
  found_one true row = refl
  found_one false row = refl

  span_one : (t : Bool) (n : ℕ) → least (((cond t (n ∷ []) []) ++ []) ++ []) ≡ least (cond t (n ∷ []) [])
  span_one true n = refl
  span_one false n = refl

  release_one : (t : Bool) (n : ℕ) → least ((cond t (n ∷ []) []) ++ []) ≡ least (cond t (n ∷ []) [])
  release_one true n = refl
  release_one false n = refl

  -- spans with one more at the end, and releases as they are
  more_spans : (f g r : List ℕ) → least ((f ++ g) ++ r) ≡ sooner (least (f ++ r)) (least g)
  more_spans f g r =
      least-append (f ++ g) r ∙ ap (λ o. sooner o (least r)) (least-append f g)
      ∙ sooner_assoc (least f) (least g) (least r) ∙ ap (sooner (least f)) (sooner_swap (least g) (least r))
      ∙ sym (sooner_assoc (least f) (least r) (least g)) ∙ ap (λ o. sooner o (least g)) (sym (least-append f r))

  more_releases : (f r g : List ℕ) → least (f ++ (r ++ g)) ≡ sooner (least (f ++ r)) (least g)
  more_releases f r g = ap least (sym (append_assoc f r g)) ∙ least-append (f ++ r) g

  -- the row of a component's span that a removal ends adds its number
  module _ (c n m at_place : ℕ) where
    abbrev ended : SpanRow → SpanRow
    ended row = cond {A = SpanRow} (is_open_row c row) (row_to row (Some n) (Some m)) row

    abbrev added : List ℕ
    added = cond (nat_eq at_place a && is_during s m) (n ∷ []) []

    none_ended : (xs : List SpanRow) → length (filter (is_open_row c) xs) ≡ 0 → map ended xs ≡ xs
    none_ended [] h = refl
    none_ended (x ∷ xs) h = at (is_open_row c x) refl h (none_ended xs)
      where
        at : (b : Bool) → is_open_row c x ≡ b → length (cond b (x ∷ filter (is_open_row c) xs) (filter (is_open_row c) xs)) ≡ 0 → (length (filter (is_open_row c) xs) ≡ 0 → map ended xs ≡ xs) → (cond {A = SpanRow} b (row_to x (Some n) (Some m)) x) ∷ map ended xs ≡ x ∷ xs
        at true e h rest = absurd (omega arith)
        at false e h rest = ap (λ l. x ∷ l) (rest h)

    end_none : (aircraft : ℕ) (o q : Option ℕ) → is_none o ≡ true → crossed_end a s aircraft o q ≡ []
    end_none aircraft None q h = refl
    end_none aircraft (Some k) q h = (cc)

    one_ended : (xs : List SpanRow) → length (filter (is_open_row c) xs) ≡ 1 → AllByRecursion (λ (row : SpanRow). is_open_row c row ≡ true → row.aircraft ≡ at_place) xs → least (in_spans (map ended xs)) ≡ sooner (least (in_spans xs)) (least added)
    one_ended [] h there = absurd (omega arith)
    one_ended (x ∷ xs) h there = at (is_open_row c x) refl h (λ k. one_ended xs k there.1)
      where
        front : List ℕ
        front = cond (nat_eq x.aircraft a && is_during s x.from) (x.fit_seq ∷ []) []

        at : (b : Bool) → is_open_row c x ≡ b → length (cond b (x ∷ filter (is_open_row c) xs) (filter (is_open_row c) xs)) ≡ 1 → (length (filter (is_open_row c) xs) ≡ 1 → least (in_spans (map ended xs)) ≡ sooner (least (in_spans xs)) (least added))
            → least (crossed_in a s (cond {A = SpanRow} b (row_to x (Some n) (Some m)) x) ++ in_spans (map ended xs)) ≡ sooner (least (crossed_in a s x ++ in_spans xs)) (least added)
        at true e h rest =
            let parts = both (is_none x.to) (nat_eq x.component c) e in
            let same = ap in_spans (none_ended xs (omega arith)) in
            let new_end : crossed_end a s x.aircraft (Some m) (Some n) ≡ added = ap (λ k. cond (nat_eq k a && is_during s m) (n ∷ []) []) (there.0 e) in
            let old : (cond (nat_eq x.aircraft a && is_during s x.from) (x.fit_seq ∷ []) []) ++ crossed_end a s x.aircraft x.to x.remove_seq ≡ cond (nat_eq x.aircraft a && is_during s x.from) (x.fit_seq ∷ []) [] =
            ap (λ l. (cond (nat_eq x.aircraft a && is_during s x.from) (x.fit_seq ∷ []) []) ++ l) (end_none x.aircraft x.to x.remove_seq parts.0) ∙ append-nil _ in
            ap (λ l. least (((cond (nat_eq x.aircraft a && is_during s x.from) (x.fit_seq ∷ []) []) ++ l) ++ in_spans (map ended xs))) new_end
            ∙ ap (λ l. least (((cond (nat_eq x.aircraft a && is_during s x.from) (x.fit_seq ∷ []) []) ++ added) ++ l)) same
            ∙ more_spans (cond (nat_eq x.aircraft a && is_during s x.from) (x.fit_seq ∷ []) []) added (in_spans xs)
            ∙ ap (λ l. sooner (least (l ++ in_spans xs)) (least added)) (sym old)
        at false e h rest =
            least-append (crossed_in a s x) (in_spans (map ended xs))
            ∙ ap (sooner (least (crossed_in a s x))) (rest h)
            ∙ sym (sooner_assoc (least (crossed_in a s x)) (least (in_spans xs)) (least added))
            ∙ ap (λ o. sooner o (least added)) (sym (least-append (crossed_in a s x) (in_spans xs)))

  -- no component has the number
  abbrev IsNoComponent : List Entry → Type 0
  IsNoComponent book = (serial : List ℕ) → is_some (component book serial) ≡ true → nat_eq (or_zero (seq_of_serial book serial)) a ≡ false

  by_act : (book : List Entry) (doc : List ℕ) (act : Act) → IsBook book → judge book (record { doc = doc; act = act }) ≡ New → IsNoComponent book
      → least (crossed_numbers a s (map (span_ended book act) (span_rows book) ++ spans_opened book act) (release_rows book ++ releases_by book act))
      ≡ sooner (least (crossed_numbers a s (span_rows book) (release_rows book))) (crossed_among a s (crossings_by book act))
  by_act book doc (Fitted f) b new none =
      let row = span_row book [] (span_of f []) in
      let t = nat_eq (or_zero (seq_of_tail book f.tail)) a && is_during s f.moment in
      ap (λ l. least (in_spans (l ++ row ∷ []) ++ in_releases (release_rows book ++ []))) (map-id (span_rows book))
      ∙ ap (λ l. least (in_spans (span_rows book ++ row ∷ []) ++ in_releases l)) (append-nil (release_rows book))
      ∙ ap (λ l. least (l ++ in_releases (release_rows book))) (flat_map-append (crossed_in a s) (span_rows book) (row ∷ []))
      ∙ more_spans (in_spans (span_rows book)) (in_spans (row ∷ [])) (in_releases (release_rows book))
      ∙ ap (sooner (least (crossed_numbers a s (span_rows book) (release_rows book)))) (span_one t (next book) ∙ found_one t (record { seq = next book; aircraft = or_zero (seq_of_tail book f.tail); moment = f.moment }))
  by_act book doc (Removed r) b new none =
      let c = or_zero (seq_of_serial book r.serial) in
      let known = removed_is_known book doc r (ap is_new new) in
      let here = or_zero (option_and_then (seq_of_tail book) (tail_fitted book r.serial)) in
      let one : length (filter (is_open_row c) (span_rows book)) ≡ 1 = open_alike c r.serial [] book b.judged known refl ∙ some_open (λ k. true) book doc r b new in
      let there = open_at book r.serial c known refl [] book b.judged refl (open_is_fitted book r.serial b) in
      ap (λ l. least (in_spans l ++ in_releases (release_rows book ++ []))) (append-nil (map (span_ended book (Removed r)) (span_rows book)))
      ∙ ap (λ l. least (in_spans (map (span_ended book (Removed r)) (span_rows book)) ++ in_releases l)) (append-nil (release_rows book))
      ∙ least-append (in_spans (map (span_ended book (Removed r)) (span_rows book))) (in_releases (release_rows book))
      ∙ ap (λ o. sooner o (least (in_releases (release_rows book)))) (one_ended c (next book) r.moment here (span_rows book) one there)
      ∙ sooner_assoc (least (in_spans (span_rows book))) (least (added c (next book) r.moment here)) (least (in_releases (release_rows book)))
      ∙ ap (sooner (least (in_spans (span_rows book)))) (sooner_swap (least (added c (next book) r.moment here)) (least (in_releases (release_rows book))))
      ∙ sym (sooner_assoc (least (in_spans (span_rows book))) (least (in_releases (release_rows book))) (least (added c (next book) r.moment here)))
      ∙ ap (λ o. sooner o (least (added c (next book) r.moment here))) (sym (least-append (in_spans (span_rows book)) (in_releases (release_rows book))))
      ∙ ap (sooner (least (crossed_numbers a s (span_rows book) (release_rows book)))) (found_one (nat_eq here a && is_during s r.moment) (record { seq = next book; aircraft = here; moment = r.moment }))
  by_act book doc (Released r lines) b new none =
      ap (λ l. least (in_spans (l ++ []) ++ in_releases (release_rows book ++ releases_by book (Released r lines)))) (map-id (span_rows book))
      ∙ ap (λ l. least (in_spans l ++ in_releases (release_rows book ++ releases_by book (Released r lines)))) (append-nil (span_rows book))
      ∙ ap (λ l. least (in_spans (span_rows book) ++ l)) (flat_map-append (crossed_by a s) (release_rows book) (releases_by book (Released r lines)))
      ∙ more_releases (in_spans (span_rows book)) (in_releases (release_rows book)) (in_releases (releases_by book (Released r lines)))
      ∙ ap (sooner (least (crossed_numbers a s (span_rows book) (release_rows book)))) (work r lines (released_is_known book doc r lines (ap is_new new)).0)
    where
      work : (r : Release) (lines : List Line) → has_item book (item_at r.place) ≡ true → least (in_releases (releases_by book (Released r lines))) ≡ crossed_among a s (crossing_at book r.place r.moment)
      work r lines known = at r.place known
        where
          at : (place : Place) → has_item book (item_at place) ≡ true → least (in_releases (releases_by book (Released (record { place = place; moment = r.moment }) lines))) ≡ crossed_among a s (crossing_at book place r.moment)
          at (places.Aircraft tail) known =
              release_one (nat_eq (or_zero (seq_of_tail book tail)) a && is_during s r.moment) (next book)
              ∙ found_one (nat_eq (or_zero (seq_of_tail book tail)) a && is_during s r.moment) (record { seq = next book; aircraft = or_zero (seq_of_tail book tail); moment = r.moment })
          at (places.Shop serial kind) known =
              release_one (nat_eq (or_zero (seq_of_serial book serial)) a && is_during s r.moment) (next book)
              ∙ ap (λ t. least (cond (t && is_during s r.moment) (next book ∷ []) [])) (none serial known)
  by_act book doc act b new none =
      ap (λ l. least (in_spans (l ++ []) ++ in_releases (release_rows book ++ []))) (map-id (span_rows book))
      ∙ ap (λ l. least (in_spans l ++ in_releases (release_rows book ++ []))) (append-nil (span_rows book))
      ∙ ap (λ l. least (in_spans (span_rows book) ++ in_releases l)) (append-nil (release_rows book))
      ∙ sym (sooner_none (least (crossed_numbers a s (span_rows book) (release_rows book))))

  map_or : {X Y : Type 0} (f : X → Y) (o p : Option X) → option_map f (option_or o p) ≡ option_or (option_map f o) (option_map f p)
  map_or f None p = refl
  map_or f (Some x) p = refl

  abbrev matched : Crossing → Bool
  matched row = nat_eq row.aircraft a && is_during s row.moment

  -- what one entry does has its number
  at_most : (t : Bool) (row : Crossing) (n : ℕ) → row.seq ≡ n → IfSome (option_map (λ (r : Crossing). r.seq) (cond t (Some row) None)) (λ k. k ≡ n)
  at_most true row n e = e
  at_most false row n e = tt

  place_number : (book : List Entry) (place : Place) (m : ℕ) → IfSome (crossed_among a s (crossing_at book place m)) (λ k. k ≡ next book)
  place_number book (places.Aircraft tail) m = at_most (nat_eq (or_zero (seq_of_tail book tail)) a && is_during s m) (record { seq = next book; aircraft = or_zero (seq_of_tail book tail); moment = m }) (next book) refl
  place_number book (places.Shop serial kind) m = tt

  own_number : (book : List Entry) (act : Act) → IfSome (crossed_among a s (crossings_by book act)) (λ k. k ≡ next book)
  own_number book (Fitted f) = at_most (nat_eq (or_zero (seq_of_tail book f.tail)) a && is_during s f.moment) (record { seq = next book; aircraft = or_zero (seq_of_tail book f.tail); moment = f.moment }) (next book) refl
  own_number book (Removed r) = at_most (nat_eq (or_zero (option_and_then (seq_of_tail book) (tail_fitted book r.serial))) a && is_during s r.moment) (record { seq = next book; aircraft = or_zero (option_and_then (seq_of_tail book) (tail_fitted book r.serial)); moment = r.moment }) (next book) refl
  own_number book (Released r lines) = place_number book r.place r.moment
  own_number book _ = tt

  first_is_sooner : (o p : Option ℕ) (n : ℕ) → IfSome o (λ k. k ≤ n) → IfSome p (λ k. k ≡ n + 1) → sooner o p ≡ option_or o p
  first_is_sooner None p n h k = refl
  first_is_sooner (Some x) None n h k = refl
  first_is_sooner (Some x) (Some y) n h k = let e : min x y ≡ x = omega arith in ap (λ (j : ℕ). Some j) e

  either_by : (o p : Option ℕ) (n : ℕ) → IfSome o (λ k. k ≤ n) → IfSome p (λ k. k ≡ n + 1) → IfSome (option_or o p) (λ k. k ≤ n + 1)
  either_by None None n h k = tt
  either_by None (Some y) n h k = omega arith
  either_by (Some x) p n h k = omega arith

  record Agrees (book : List Entry) : Type 0 where
    pub same : crossed_among a s (crossings book) ≡ least (crossed_numbers a s (span_rows book) (release_rows book))
    pub few : IfSome (crossed_among a s (crossings book)) (λ k. k ≤ length book)

  abbrev AgreesAt : List Entry → Type 0
  AgreesAt book = IsNoComponent book → Agrees book

  step : (book : List Entry) (e : Entry) → IsBook book → judge book e ≡ New → AgreesAt book → AgreesAt (book ++ e ∷ [])
  step book e b new before none =
      let none_before : IsNoComponent book = λ serial known. ap (λ n. nat_eq n a) (sym (serial_number_kept book (e ∷ []) serial known)) ∙ none serial (ap is_some (component_kept book (e ∷ []) serial known) ∙ known) in
      let old = before none_before in
      let more : crossed_among a s (crossings (book ++ e ∷ [])) ≡ option_or (crossed_among a s (crossings book)) (crossed_among a s (crossings_by book e.act)) =
      ap (crossed_among a s) (gives-more (λ es x. crossings_by es x.act) [] book e)
      ∙ ap (option_map (λ (r : Crossing). r.seq)) (find-append matched (crossings book) (crossings_by book e.act))
      ∙ map_or (λ (r : Crossing). r.seq) (find matched (crossings book)) (find matched (crossings_by book e.act)) in
      let rows : least (crossed_numbers a s (span_rows (book ++ e ∷ [])) (release_rows (book ++ e ∷ []))) ≡ sooner (least (crossed_numbers a s (span_rows book) (release_rows book))) (crossed_among a s (crossings_by book e.act)) =
      ap (λ l. least (crossed_numbers a s l (release_rows (book ++ e ∷ [])))) (span_rows-more book e b new)
      ∙ ap (λ l. least (crossed_numbers a s (map (span_ended book e.act) (span_rows book) ++ spans_opened book e.act) l)) (gives-more (λ es x. releases_by es x.act) [] book e)
      ∙ by_act book e.doc e.act b new none_before in
      record {
        same =
            more ∙ sym (first_is_sooner (crossed_among a s (crossings book)) (crossed_among a s (crossings_by book e.act)) (length book) old.few (own_number book e.act))
            ∙ ap (λ o. sooner o (crossed_among a s (crossings_by book e.act))) old.same ∙ sym rows;
        few =
            subst (λ n. IfSome (crossed_among a s (crossings (book ++ e ∷ []))) (λ k. k ≤ n)) (sym (length-append book (e ∷ [])))
            (subst (λ o. IfSome o (λ k. k ≤ length book + 1)) (sym more) (either_by (crossed_among a s (crossings book)) (crossed_among a s (crossings_by book e.act)) (length book) old.few (own_number book e.act)));
      }

  agrees : (book : List Entry) → IsBook book → AgreesAt book
  agrees = of_each_book AgreesAt (λ book e b shape new before. step book e b new before) (λ none. record { same = refl; few = tt })

-- the first entry that a sector straddles is the least number of a fitting, a removal or a release at its aircraft while it was under way, by the rows of the spans and of the releases
pub straddle_least : (book : List Entry) (s : Sector) → IsBook book → is_some (aircraft book s.tail) ≡ true
    → first_straddled book s ≡ least (crossed_numbers (or_zero (seq_of_tail book s.tail)) s (span_rows book) (release_rows book))
straddle_least book s b there =
    let a = or_zero (seq_of_tail book s.tail) in
    let none : (serial : List ℕ) → is_some (component book serial) ≡ true → nat_eq (or_zero (seq_of_serial book serial)) a ≡ false =
    λ serial known. eq_swap (or_zero (seq_of_serial book serial)) a ∙ other_number book a (or_zero (seq_of_serial book serial)) s.tail serial (tail_known book s.tail there) (serial_known book serial known) in
    straddle_rows book s b there ∙ (agrees a s book b none).same
