-- What is fitted to an aircraft, by the rows of its open spans.
use Rattle.std.proofs.Common.{◌≡◌, ℕ, Bool, true, false, cond, ◌&&◌, nat_eq, List, [], ◌∷◌, ◌++◌, map, filter, Option, Some, None, refl, sym, ap, ap₂, ◌∙◌, append_assoc}
use Rattle.std.specs.Prelude.{is_none, is_some}
use Rattle.std.specs.List.{AllByRecursion, filter_map, cons_option}
use Rattle.std.specs.Option.{option_map}
use Rattle.mx_book.specs.commands.Act.{Act, Entry, Fitted}
use Rattle.mx_book.specs.commands.Same.{same_text}
use Rattle.mx_book.specs.Book.{IsBook, is_book_from, is_new}
use Rattle.mx_book.specs.Judge.{judge}
use Rattle.mx_book.specs.Register.{aircraft, component}
use Rattle.mx_book.specs.Span.{Span, is_open_on, span_begun, spans}
use Rattle.mx_book.proofs.JudgeLemmas.{both_true}
use Rattle.mx_registers.specs.Names.{or_zero, seq_of_serial, seq_of_tail, serial_at}
use Rattle.mx_registers.proofs.NameLemmas.{serial_known}
use Rattle.mx_registers.proofs.NewLemmas.{fitted_is_known}
use Rattle.mx_registers.specs.kept.Spans.{span_row, span_rows, span_rows_from}
use Rattle.mx_registers.proofs.KeptProofs.KnownLemmas.{aircraft_kept, component_kept, other_name, spans_placed}
use Rattle.mx_registers.proofs.KeptProofs.NumbersThere.{one_tail_number, tail_number_kept}
use Rattle.mx_registers.proofs.KeptProofs.SpanGrowth.{span_of}
use Rattle.mx_registers.proofs.KeptProofs.SpanRows.{serial_number_kept}
use Rattle.mx_row_rules.specs.found.Spans.{is_open_at, place_said}
use Rattle.mx_row_rules.proofs.FoundProofs.ListLemmas.{all_left}
use Rattle.mx_row_rules.proofs.FoundProofs.OpenLemmas.{ends_alike}
use Rattle.mx_row_rules.proofs.FoundProofs.ThereLemmas.{no_tail, tail_there}

abbrev pub place_of : Span → List ℕ × List ℕ
place_of s = (s.position, s.serial)

-- ── each row has its component ──

module _ (whole : List Entry) where
  -- a component that some entries have is there behind all of them, by its number
  place_there : (before more : List Entry) (serial : List ℕ) → before ++ more ≡ whole → is_some (component before serial) ≡ true → serial_at whole (or_zero (seq_of_serial before serial)) ≡ Some serial
  place_there before more serial is known =
      ap₂ (λ (w : List Entry) (m : ℕ). serial_at w m) (sym is) (sym (serial_number_kept before more serial known))
      ∙ serial_known (before ++ more) serial (ap is_some (component_kept before more serial known) ∙ known)

  rows_there : (before later : List Entry) → before ++ later ≡ whole → is_book_from before later ≡ true → AllByRecursion (λ row. is_some (place_said whole row) ≡ true) (span_rows_from before later)
  rows_there before [] is h = tt
  rows_there before (e ∷ later) is h =
      let both = both_true (is_new (judge before e)) (is_book_from (before ++ e ∷ []) later) h in
      at e.act both.0 (rows_there (before ++ e ∷ []) later (append_assoc before (e ∷ []) later ∙ is) both.1)
    where
      at : (act : Act) → is_new (judge before (record { doc = e.doc; act = act })) ≡ true
          → AllByRecursion (λ row. is_some (place_said whole row) ≡ true) (span_rows_from (before ++ e ∷ []) later)
          → AllByRecursion (λ row. is_some (place_said whole row) ≡ true) (map (span_row before later) (span_begun act later) ++ span_rows_from (before ++ e ∷ []) later)
      at (Fitted f) new rest =
          (ap (λ o. is_some (option_map {U = List ℕ × List ℕ} (λ serial. (f.position, serial)) o)) (place_there before (e ∷ later) f.serial is (fitted_is_known before e.doc f new).1), rest)
      at _ new rest = rest

-- the component of each open span of an aircraft is there
pub components_there : (book : List Entry) (n : ℕ) → IsBook book → AllByRecursion (λ row. is_some (place_said book row) ≡ true) (filter (is_open_at n) (span_rows book))
components_there book n b = all_left (λ row. is_some (place_said book row) ≡ true) (is_open_at n) (span_rows book) (rows_there book [] book refl b.judged)

-- ── what they say ──

-- one row more is among those of the aircraft, or it is not
one_more : {Row X Y : Type 0} (said : Row → Option Y) (of : X → Y) (b c : Bool) (row : Row) (rows : List Row) (x : X) (xs : List X) → b ≡ c → said row ≡ Some (of x) → filter_map said rows ≡ map of xs
    → filter_map said (cond b (row ∷ rows) rows) ≡ map of (cond c (x ∷ xs) xs)
one_more said of true true row rows x xs e is h = ap₂ cons_option is h
one_more said of false false row rows x xs e is h = h
one_more said of true false row rows x xs e is h = absurd cc
one_more said of false true row rows x xs e is h = absurd cc

module _ (whole : List Entry) (tail : List ℕ) (n : ℕ) (there : is_some (aircraft whole tail) ≡ true) (number : n ≡ or_zero (seq_of_tail whole tail)) where
  -- the number of an aircraft that some entries have is this one where it has the registration
  pub is_its_number : (before more : List Entry) (name : List ℕ) → before ++ more ≡ whole → is_some (aircraft before name) ≡ true → nat_eq (or_zero (seq_of_tail before name)) n ≡ same_text name tail
  is_its_number before more name is known =
      ap₂ nat_eq (sym (tail_number_kept before more name known) ∙ ap (λ (w : List Entry). or_zero (seq_of_tail w name)) is) number
      ∙ one_tail_number whole name tail (ap (λ (w : List Entry). is_some (aircraft w name)) (sym is) ∙ ap is_some (aircraft_kept before more name known) ∙ known) there

  places_from : (before later : List Entry) → before ++ later ≡ whole → is_book_from before later ≡ true
      → filter_map (place_said whole) (filter (is_open_at n) (span_rows_from before later)) ≡ map place_of (filter (is_open_on tail) (spans later))
  places_from before [] is h = refl
  places_from before (e ∷ later) is h =
      let both = both_true (is_new (judge before e)) (is_book_from (before ++ e ∷ []) later) h in
      at e.act both.0 (places_from (before ++ e ∷ []) later (append_assoc before (e ∷ []) later ∙ is) both.1)
    where
      at : (act : Act) → is_new (judge before (record { doc = e.doc; act = act })) ≡ true
          → filter_map (place_said whole) (filter (is_open_at n) (span_rows_from (before ++ e ∷ []) later)) ≡ map place_of (filter (is_open_on tail) (spans later))
          → filter_map (place_said whole) (filter (is_open_at n) (map (span_row before later) (span_begun act later) ++ span_rows_from (before ++ e ∷ []) later))
          ≡ map place_of (filter (is_open_on tail) (span_begun act later ++ spans later))
      at (Fitted f) new rest =
          let names = fitted_is_known before e.doc f new in
          let row = span_row before later (span_of f later) in
          one_more (place_said whole) place_of (is_open_at n row) (is_open_on tail (span_of f later)) row _ (span_of f later) _
          (ap₂ ◌&&◌ (is_its_number before (e ∷ later) f.tail is names.0) (ends_alike f.serial _ later))
          (ap (option_map {U = List ℕ × List ℕ} (λ serial. (f.position, serial))) (place_there whole before (e ∷ later) f.serial is names.1)) rest
      at _ new rest = rest

pub places_found : (book : List Entry) (tail : List ℕ) (n : ℕ) → IsBook book → seq_of_tail book tail ≡ Some n
    → filter_map (place_said book) (filter (is_open_at n) (span_rows book)) ≡ map place_of (filter (is_open_on tail) (spans book))
places_found book tail n b h = places_from book tail n (tail_there book tail n h) (sym (ap or_zero h)) [] book refl b.judged

none_open : (book : List Entry) (tail : List ℕ) → is_some (aircraft book tail) ≡ false → (xs : List Span) → AllByRecursion (λ (s : Span). is_some (aircraft book s.tail) ≡ true) xs → filter (is_open_on tail) xs ≡ []
none_open book tail free [] h = refl
none_open book tail free (s ∷ xs) h =
    ap (λ c. cond (c && is_none s.to) (s ∷ filter (is_open_on tail) xs) (filter (is_open_on tail) xs)) (other_name (λ (t : List ℕ). is_some (aircraft book t)) s.tail tail h.0 free) ∙ none_open book tail free xs h.1

-- nothing is fitted to an aircraft that is not there
pub none_fitted : (book : List Entry) (tail : List ℕ) → IsBook book → seq_of_tail book tail ≡ None → filter (is_open_on tail) (spans book) ≡ []
none_fitted book tail b none = none_open book tail (ap is_some (no_tail book tail none)) (spans book) (spans_placed book b)
