-- The row of the open span of a component: where the component is fitted.
use Rattle.std.proofs.Common.{refl, sym, subst, ap, ◌∙◌, ◌≡◌, ℕ, List, [], ◌∷◌, ◌++◌, Bool, true, false, cond, ◌&&◌, Option, Some, None, append_assoc, nat_eq}
use Rattle.std.specs.Prelude.{find, is_none, is_some, map}
use Rattle.std.specs.Option.{option_map}
use Rattle.mx_book.specs.commands.Act.{Act, Entry, Fitted}
use Rattle.mx_book.specs.commands.Same.{same_text}
use Rattle.mx_book.specs.declared.commands.fitting.Fitting.{Fitting}
use Rattle.mx_book.specs.Register.{aircraft, component}
use Rattle.mx_book.specs.Book.{IsBook, is_new, is_book_from}
use Rattle.mx_book.specs.Judge.{judge}
use Rattle.mx_book.specs.Span.{Span, first_removal, fitted, span_begun, spans, tail_fitted}
use Rattle.mx_book.proofs.JudgeLemmas.{both_true}
use Rattle.mx_registers.specs.Names.{or_zero, seq_of_serial}
use Rattle.mx_registers.proofs.NewLemmas.{fitted_is_known}
use Rattle.mx_base.specs.declared.rows.rows.SpanRow.{SpanRow}
use Rattle.mx_registers.specs.kept.Items.{number_of_serial, number_of_tail}
use Rattle.mx_registers.specs.kept.Spans.{is_open_of, open_span_in, span_row, span_rows, span_rows_from}
use Rattle.mx_registers.proofs.KeptProofs.KnownLemmas.{component_kept}
use Rattle.mx_registers.proofs.KeptProofs.NumbersThere.{tail_number_kept}
use Rattle.mx_registers.proofs.KeptProofs.SpanGrowth.{span_of}
use Rattle.mx_registers.proofs.KeptProofs.SpanRegisters.{and_swap}
use Rattle.mx_registers.proofs.KeptProofs.SpanRows.{one_number, serial_number_kept}

-- what the row of a span says is said of the span in the whole book
abbrev SaysAlike : {X : Type 0} → (SpanRow → X) → (List Entry → Span → X) → Type 0
SaysAlike f g = (before : List Entry) (x : Entry) (later : List Entry) (fitting : Fitting) → is_some (aircraft before fitting.tail) ≡ true → f (span_row before later (span_of fitting later)) ≡ g (before ++ x ∷ later) (span_of fitting later)

module _ {X : Type 0} (f : SpanRow → X) (g : List Entry → Span → X) (alike : SaysAlike f g) (serial : List ℕ) (c : ℕ) where
  abbrev is_there : Span → Bool
  is_there s = same_text s.serial serial && is_none s.to

  either_found : (book : List Entry) (row : SpanRow) (s : Span) (rows : Option SpanRow) (more : Option Span) (b d : Bool) → b ≡ d → f row ≡ g book s → option_map f rows ≡ option_map (g book) more
      → option_map f (cond b (Some row) rows) ≡ option_map (g book) (cond d (Some s) more)
  either_found book row s rows more true true e h rest = ap (λ y. Some y) h
  either_found book row s rows more false false e h rest = rest
  either_found book row s rows more true false e h rest = (cc)
  either_found book row s rows more false true e h rest = (cc)

  open_found : (before later : List Entry) → is_book_from before later ≡ true → is_some (component (before ++ later) serial) ≡ true → c ≡ or_zero (seq_of_serial (before ++ later) serial)
      → option_map f (find (is_open_of c) (span_rows_from before later)) ≡ option_map (g (before ++ later)) (find is_there (spans later))
  open_found before [] h known e = refl
  open_found before (x ∷ later) h known e =
      let both = both_true (is_new (judge before x)) (is_book_from (before ++ x ∷ []) later) h in
      let same = append_assoc before (x ∷ []) later in
      at x.act both.0
      (subst (λ (b : List Entry). option_map f (find (is_open_of c) (span_rows_from (before ++ x ∷ []) later)) ≡ option_map (g b) (find is_there (spans later))) same
      (open_found (before ++ x ∷ []) later both.1 (subst (λ (b : List Entry). is_some (component b serial) ≡ true) (sym same) known) (e ∙ ap (λ (b : List Entry). or_zero (seq_of_serial b serial)) (sym same))))
    where
      at : (act : Act) → is_new (judge before (record { doc = x.doc; act = act })) ≡ true
          → option_map f (find (is_open_of c) (span_rows_from (before ++ x ∷ []) later)) ≡ option_map (g (before ++ x ∷ later)) (find is_there (spans later))
          → option_map f (find (is_open_of c) (map (span_row before later) (span_begun act later) ++ span_rows_from (before ++ x ∷ []) later)) ≡ option_map (g (before ++ x ∷ later)) (find is_there (span_begun act later ++ spans later))
      at (Fitted f0) new rest =
          let whole = before ++ x ∷ later in
          let names = fitted_is_known before x.doc f0 new in
          let row = span_row before later (span_of f0 later) in
          let number : nat_eq row.component c ≡ same_text f0.serial serial =
          ap (nat_eq row.component) e
          ∙ ap (λ n. nat_eq n (or_zero (seq_of_serial whole serial))) (sym (serial_number_kept before (x ∷ later) f0.serial names.1))
          ∙ one_number whole f0.serial serial (ap is_some (component_kept before (x ∷ later) f0.serial names.1) ∙ names.1) known in
          either_found whole row (span_of f0 later) (find (is_open_of c) (span_rows_from (before ++ x ∷ []) later)) (find is_there (spans later)) (is_open_of c row) (is_there (span_of f0 later))
          (ap (λ b. is_none (first_removal f0.serial later) && b) number ∙ and_swap (is_none (first_removal f0.serial later)) (same_text f0.serial serial))
          (alike before x later f0 names.0) rest
      at _ new rest = rest

module _ (book : List Entry) (serial : List ℕ) (b : IsBook book) (known : is_some (component book serial) ≡ true) where
  found : {X : Type 0} (f : SpanRow → X) (g : List Entry → Span → X) → SaysAlike f g → option_map f (open_span_in (span_rows book) (number_of_serial book serial)) ≡ option_map (g book) (fitted book serial)
  found f g alike = open_found f g alike serial (number_of_serial book serial) [] book b.judged known refl

  pub aircraft_found : option_map (λ (row : SpanRow). row.aircraft) (open_span_in (span_rows book) (number_of_serial book serial)) ≡ option_map (number_of_tail book) (tail_fitted book serial)
  aircraft_found =
      found (λ row. row.aircraft) (λ whole s. number_of_tail whole s.tail) (λ before x later fitting there. sym (tail_number_kept before (x ∷ later) fitting.tail there)) ∙ twice (fitted book serial)
    where
      twice : (o : Option Span) → option_map (λ (s : Span). number_of_tail book s.tail) o ≡ option_map (number_of_tail book) (option_map (λ (s : Span). s.tail) o)
      twice None = refl
      twice (Some s) = refl

  pub position_found : option_map (λ (row : SpanRow). row.position) (open_span_in (span_rows book) (number_of_serial book serial)) ≡ option_map (λ (s : Span). s.position) (fitted book serial)
  position_found = found (λ row. row.position) (λ whole s. s.position) (λ before x later fitting there. refl)

  pub moment_found : option_map (λ (row : SpanRow). row.from) (open_span_in (span_rows book) (number_of_serial book serial)) ≡ option_map (λ (s : Span). s.from) (fitted book serial)
  moment_found = found (λ row. row.from) (λ whole s. s.from) (λ before x later fitting there. refl)
