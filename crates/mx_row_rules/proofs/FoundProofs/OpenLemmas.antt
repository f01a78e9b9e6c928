-- Where a component is fitted and whether a position is taken, by the rows of open spans.
use Rattle.std.proofs.Common.{◌≡◌, ℕ, ◌+◌, Bool, true, false, cond, ◌&&◌, ◌||◌, nat_eq, List, [], ◌∷◌, ◌++◌, map, filter, Option, Some, None, refl, sym, ap, subst, ◌∙◌, append_assoc}
use Rattle.std.specs.Prelude.{find, is_none, is_some, slice_get}
use Rattle.std.specs.List.{list_any, cons_option, AllByRecursion}
use Rattle.std.specs.Option.{option_and_then, option_map}
use Rattle.mx_book.specs.commands.Act.{Act, Entry, Fitted, Removed, removal_of}
use Rattle.mx_book.specs.commands.Same.{same_text}
use Rattle.mx_book.specs.declared.commands.fitting.Removal.{Removal}
use Rattle.mx_book.specs.Book.{IsBook, is_book_from, is_new}
use Rattle.mx_book.specs.Judge.{judge}
use Rattle.mx_book.specs.Register.{aircraft, component, register}
use Rattle.mx_book.specs.Span.{Span, first_removal, fitted, is_open_on, is_taken, span_begun, spans, tail_fitted}
use Rattle.mx_book.proofs.JudgeLemmas.{both_true}
use Rattle.mx_registers.specs.Names.{or_zero, seq_of_serial, seq_of_tail, tail_at}
use Rattle.mx_registers.proofs.NameLemmas.{tail_known}
use Rattle.mx_registers.proofs.NewLemmas.{fitted_is_known}
use Rattle.mx_base.specs.declared.rows.rows.SpanRow.{SpanRow}
use Rattle.mx_registers.specs.kept.Items.{number_of_serial, number_of_tail}
use Rattle.mx_registers.specs.kept.Spans.{is_open_of as is_open_span, open_span_in, removal_from, removes, span_row, span_rows, span_rows_from}
use Rattle.mx_registers.proofs.KeptProofs.FittedRows.{aircraft_found, position_found}
use Rattle.mx_registers.proofs.KeptProofs.KnownLemmas.{aircraft_kept, other_name, spans_known, spans_placed}
use Rattle.mx_registers.proofs.KeptProofs.CreditLemmas.{filter_on}
use Rattle.mx_registers.proofs.KeptProofs.NumbersThere.{one_tail_number, tail_number_kept}
use Rattle.mx_registers.proofs.KeptProofs.SpanGrowth.{span_of}
use Rattle.mx_registers.proofs.KeptProofs.SpanRegisters.{and_swap}
use Rattle.mx_row_rules.specs.found.Spans.{is_open_at, is_open_of, is_taken_in, span_aircraft}
use Rattle.mx_row_rules.proofs.FoundProofs.ListLemmas.{first_left, some_map}
use Rattle.mx_row_rules.proofs.FoundProofs.ThereLemmas.{no_serial, no_tail, serial_there, tail_there}

-- ── a span that nothing removed has no end ──

end_if : (b : Bool) (k : ℕ) (r : Removal) (o : Option ℕ) (p : Option Removal) → is_none o ≡ is_none (option_map (λ (x : Removal). x.moment) p)
    → is_none (cond b (Some k) o) ≡ is_none (option_map (λ (x : Removal). x.moment) (cond b (Some r) p))
end_if true k r o p h = refl
end_if false k r o p h = h

pub ends_alike : (serial : List ℕ) (k : ℕ) (later : List Entry) → is_none (removal_from serial k later) ≡ is_none (first_removal serial later)
ends_alike serial k [] = refl
ends_alike serial k (e ∷ later) = at e.act (ends_alike serial (k + 1) later)
  where
    at : (act : Act) → is_none (removal_from serial (k + 1) later) ≡ is_none (first_removal serial later)
        → is_none (cond (removes serial act) (Some k) (removal_from serial (k + 1) later)) ≡ is_none (option_map (λ (x : Removal). x.moment) (find (λ (r : Removal). same_text r.serial serial) (cons_option (removal_of act) (register removal_of later))))
    at (Removed r) h = end_if (same_text r.serial serial) k r (removal_from serial (k + 1) later) (find (λ (x : Removal). same_text x.serial serial) (register removal_of later)) h
    at _ h = h

pub rows_ended : (before later : List Entry) → AllByRecursion (λ (row : SpanRow). is_none row.remove_seq ≡ is_none row.to) (span_rows_from before later)
rows_ended before [] = tt
rows_ended before (e ∷ later) = at e.act (rows_ended (before ++ e ∷ []) later)
  where
    at : (act : Act) → AllByRecursion (λ (row : SpanRow). is_none row.remove_seq ≡ is_none row.to) (span_rows_from (before ++ e ∷ []) later)
        → AllByRecursion (λ (row : SpanRow). is_none row.remove_seq ≡ is_none row.to) (map (span_row before later) (span_begun act later) ++ span_rows_from (before ++ e ∷ []) later)
    at (Fitted f) rest = (ends_alike f.serial _ later, rest)
    at _ rest = rest

open_alike : (n : ℕ) (rows : List SpanRow) → AllByRecursion (λ (row : SpanRow). is_none row.remove_seq ≡ is_none row.to) rows → AllByRecursion (λ (row : SpanRow). is_open_of n row ≡ is_open_span n row) rows
open_alike n [] h = tt
open_alike n (row ∷ rows) h = (ap (λ b. nat_eq row.component n && b) h.0 ∙ and_swap (nat_eq row.component n) (is_none row.to), open_alike n rows h.1)

-- ── where a component is fitted ──

found_has : {X : Type 0} (P : X → Type 0) (p : X → Bool) (xs : List X) (x : X) → AllByRecursion P xs → find p xs ≡ Some x → P x
found_has P p [] x h e = absurd cc
found_has {X = X} P p (y ∷ ys) x h e = at (p y) e (found_has P p ys x h.1)
  where
    at : (b : Bool) → cond b (Some y) (find p ys) ≡ Some x → (find p ys ≡ Some x → P x) → P x
    at true g rest = let same : y ≡ x = cc in subst P same h.0
    at false g rest = rest g

module _ (book : List Entry) (b : IsBook book) (serial : List ℕ) where
  abbrev is_there : Span → Bool
  is_there s = same_text s.serial serial && is_none s.to

  tail_again : (o : Option Span) → find is_there (spans book) ≡ o → option_and_then (tail_at book) (option_map (number_of_tail book) (option_map (λ (s : Span). s.tail) o)) ≡ option_map (λ (s : Span). s.tail) o
  tail_again None h = refl
  tail_again (Some s) h = tail_known book s.tail (found_has (λ (x : Span). is_some (aircraft book x.tail) ≡ true) is_there (spans book) s (spans_placed book b) h)

  module _ (n : ℕ) (number : seq_of_serial book serial ≡ Some n) where
    first_open : slice_get (filter (is_open_of n) (span_rows book)) 0 ≡ open_span_in (span_rows book) (number_of_serial book serial)
    first_open =
        ap (λ rows. slice_get rows 0) (filter_on (is_open_of n) (is_open_span n) (span_rows book) (open_alike n (span_rows book) (rows_ended [] book)))
        ∙ first_left (is_open_span n) (span_rows book)
        ∙ ap (open_span_in (span_rows book)) (sym (ap or_zero number))

    aircraft_is : span_aircraft (filter (is_open_of n) (span_rows book)) ≡ option_map (number_of_tail book) (tail_fitted book serial)
    aircraft_is = ap (option_map (λ (row : SpanRow). row.aircraft)) first_open ∙ aircraft_found book serial b (serial_there book serial n number)

    -- the aircraft of the open span of a component is the one that it is fitted to
    pub fitted_tail : option_and_then (tail_at book) (span_aircraft (filter (is_open_of n) (span_rows book))) ≡ tail_fitted book serial
    fitted_tail = ap (option_and_then (tail_at book)) aircraft_is ∙ tail_again (find is_there (spans book)) refl

    pub fitted_there : is_some (span_aircraft (filter (is_open_of n) (span_rows book))) ≡ is_some (tail_fitted book serial)
    fitted_there = ap is_some aircraft_is ∙ some_map (number_of_tail book) (tail_fitted book serial)

    -- and its position is the one that it is fitted to
    pub fitted_position : option_map (λ (row : SpanRow). row.position) (slice_get (filter (is_open_of n) (span_rows book)) 0) ≡ option_map (λ (s : Span). s.position) (fitted book serial)
    fitted_position = ap (option_map (λ (row : SpanRow). row.position)) first_open ∙ position_found book serial b (serial_there book serial n number)

  none_there : is_some (component book serial) ≡ false → (xs : List Span) → AllByRecursion (λ (s : Span). is_some (component book s.serial) ≡ true) xs → find is_there xs ≡ None
  none_there free [] h = refl
  none_there free (s ∷ xs) h =
      ap (λ c. cond (c && is_none s.to) (Some s) (find is_there xs)) (other_name (λ (t : List ℕ). is_some (component book t)) s.serial serial h.0 free) ∙ none_there free xs h.1

  -- a component that is not there is fitted nowhere
  pub fitted_nowhere : seq_of_serial book serial ≡ None → tail_fitted book serial ≡ None
  fitted_nowhere none = ap (option_map (λ (s : Span). s.tail)) (none_there (ap is_some (no_serial book serial none)) (spans book) (spans_known book b))

-- ── whether a position is taken ──

module _ (tail position : List ℕ) (n : ℕ) where
  abbrev is_in_position : SpanRow → Bool
  is_in_position row = same_text row.position position

  abbrev is_taken_by : Span → Bool
  is_taken_by s = is_open_on tail s && same_text s.position position

  -- one row more is among those of the aircraft, or it is not
  one_more : (a b o c s : Bool) (row : SpanRow) (rows : List SpanRow) → a ≡ b → o ≡ c → list_any is_in_position rows ≡ s → list_any is_in_position (cond (a && o) (row ∷ rows) rows) ≡ ((b && c) && is_in_position row) || s
  one_more true true true true s row rows e f h = ap (λ x. is_in_position row || x) h
  one_more true true false false s row rows e f h = h
  one_more false false o c s row rows e f h = h
  one_more true false o c s row rows e f h = absurd cc
  one_more false true o c s row rows e f h = absurd cc
  one_more true true true false s row rows e f h = absurd cc
  one_more true true false true s row rows e f h = absurd cc

  taken_from : (before later : List Entry) → is_book_from before later ≡ true → is_some (aircraft (before ++ later) tail) ≡ true → n ≡ or_zero (seq_of_tail (before ++ later) tail)
      → is_taken_in position (filter (is_open_at n) (span_rows_from before later)) ≡ list_any is_taken_by (spans later)
  taken_from before [] h there e = refl
  taken_from before (x ∷ later) h there e =
      let both = both_true (is_new (judge before x)) (is_book_from (before ++ x ∷ []) later) h in
      let same = append_assoc before (x ∷ []) later in
      at x.act both.0 (taken_from (before ++ x ∷ []) later both.1 (subst (λ (b : List Entry). is_some (aircraft b tail) ≡ true) (sym same) there) (e ∙ ap (λ (b : List Entry). or_zero (seq_of_tail b tail)) (sym same)))
    where
      at : (act : Act) → is_new (judge before (record { doc = x.doc; act = act })) ≡ true
          → is_taken_in position (filter (is_open_at n) (span_rows_from (before ++ x ∷ []) later)) ≡ list_any is_taken_by (spans later)
          → is_taken_in position (filter (is_open_at n) (map (span_row before later) (span_begun act later) ++ span_rows_from (before ++ x ∷ []) later)) ≡ list_any is_taken_by (span_begun act later ++ spans later)
      at (Fitted f0) new rest =
          let whole = before ++ x ∷ later in
          let names = fitted_is_known before x.doc f0 new in
          let row = span_row before later (span_of f0 later) in
          let number : nat_eq row.aircraft n ≡ same_text f0.tail tail =
          ap (nat_eq row.aircraft) e ∙ ap (λ m. nat_eq m (or_zero (seq_of_tail whole tail))) (sym (tail_number_kept before (x ∷ later) f0.tail names.0))
          ∙ one_tail_number whole f0.tail tail (ap is_some (aircraft_kept before (x ∷ later) f0.tail names.0) ∙ names.0) there in
          one_more (nat_eq row.aircraft n) (same_text f0.tail tail) (is_none row.remove_seq) (is_none (first_removal f0.serial later)) _ row
          (filter (is_open_at n) (span_rows_from (before ++ x ∷ []) later)) number (ends_alike f0.serial _ later) rest
      at _ new rest = rest

  pub taken_is : (book : List Entry) → IsBook book → seq_of_tail book tail ≡ Some n → is_taken_in position (filter (is_open_at n) (span_rows book)) ≡ is_taken book tail position
  taken_is book b number = taken_from [] book b.judged (tail_there book tail n number) (sym (ap or_zero number))

  none_of_it : (book : List Entry) → is_some (aircraft book tail) ≡ false → (xs : List Span) → AllByRecursion (λ (s : Span). is_some (aircraft book s.tail) ≡ true) xs → list_any is_taken_by xs ≡ false
  none_of_it book free [] h = refl
  none_of_it book free (s ∷ xs) h =
      ap (λ c. ((c && is_none s.to) && same_text s.position position) || list_any is_taken_by xs) (other_name (λ (t : List ℕ). is_some (aircraft book t)) s.tail tail h.0 free) ∙ none_of_it book free xs h.1

-- nothing is fitted to an aircraft that is not there
pub taken_by_none : (book : List Entry) (tail position : List ℕ) → IsBook book → seq_of_tail book tail ≡ None → is_taken book tail position ≡ false
taken_by_none book tail position b none = none_of_it tail position 0 book (ap is_some (no_tail book tail none)) (spans book) (spans_placed book b)
