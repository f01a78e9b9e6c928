-- The fittings and the removals of a book are in the rows of its spans.
use Rattle.std.proofs.Common.{arith, refl, sym, subst, ap, ◌∙◌, ◌≡◌, ℕ, ◌≤◌, zero, suc, length, List, [], ◌∷◌, ◌++◌, Bool, true, false, cond, ◌&&◌, Option, Some, None, append_assoc, append-nil, nat_eq}
use Rattle.std.specs.Prelude.{is_none, is_some, map, filter, IsPermutation}
use Rattle.std.specs.List.{cons_option, filter_map}
use Rattle.std.proofs.lemmas.Bool.Decides.{Decides-eqb}
use Rattle.std.proofs.lemmas.List.{map-id}
use Rattle.std.proofs.lemmas.List.Elements.{filter-append, filter_map-append}
use Rattle.std.proofs.lemmas.List.Sorted.{IsPermutation-refl, IsPermutation-trans, IsPermutation-cons, IsPermutation-middle, IsPermutation-append_right, IsPermutation-append_comm}
use Rattle.mx_book.specs.commands.Act.{Act, Entry, Fitted, Removed}
use Rattle.mx_book.specs.commands.Same.{same_text}
use Rattle.mx_book.specs.declared.commands.fitting.Removal.{Removal}
use Rattle.mx_book.specs.declared.verdict.Verdict.TheVariants.{New}
use Rattle.mx_book.specs.Register.{component}
use Rattle.mx_book.specs.Book.{IsBook, is_new, is_book_from}
use Rattle.mx_book.specs.Judge.{judge}
use Rattle.mx_book.specs.Span.{Span, first_removal, span_begun, spans, fitted, open_spans_of}
use Rattle.mx_book.proofs.JudgeLemmas.{both_true}
use Rattle.mx_book.proofs.SpanLemmas.{one_place}
use Rattle.mx_base.specs.declared.rows.rows.RemovalRow.{RemovalRow}
use Rattle.mx_registers.specs.Names.{seq_of_serial, or_zero}
use Rattle.mx_registers.specs.Registers.{gives_by, next, fittings_by, removals_by, fitting_rows, removal_rows}
use Rattle.mx_registers.proofs.NewLemmas.{fitted_is_known, removed_is_known}
use Rattle.mx_registers.proofs.RegisterLemmas.{gives-more}
use Rattle.mx_base.specs.declared.rows.rows.SpanRow.{SpanRow}
use Rattle.mx_registers.specs.kept.Spans.{fitting_in, removal_by, removal_in, span_ended, span_row, span_rows, span_rows_from, spans_opened}
use Rattle.mx_registers.proofs.KeptProofs.SpanGrowth.{span_of}
use Rattle.mx_registers.proofs.KeptProofs.KnownLemmas.{component_kept}
use Rattle.mx_registers.proofs.KeptProofs.Induction.{of_each_book}
use Rattle.mx_registers.proofs.KeptProofs.PlaceLemmas.{none_find}
use Rattle.mx_registers.proofs.KeptProofs.SpanRows.{serial_number_kept, one_number, row_to, span_rows-more}
use Rattle.mx_registers.proofs.KeptProofs.JudgedLemmas.{new-fitted}

-- ── fittings ──

fittings_from : (before later : List Entry) → gives_by fittings_by before later ≡ map fitting_in (span_rows_from before later)
fittings_from before [] = refl
fittings_from before (x ∷ later) = at x.act (fittings_from (before ++ x ∷ []) later)
  where
    at : (act : Act) → gives_by fittings_by (before ++ x ∷ []) later ≡ map fitting_in (span_rows_from (before ++ x ∷ []) later)
        → fittings_by before act ++ gives_by fittings_by (before ++ x ∷ []) later ≡ map fitting_in (map (span_row before later) (span_begun act later) ++ span_rows_from (before ++ x ∷ []) later)
    at (Fitted f) h = ap (λ l. fitting_in (span_row before later (span_of f later)) ∷ l) h
    at _ h = h

-- the fittings of a book are those that its spans begin with
pub fittings_in_spans : (book : List Entry) → fitting_rows book ≡ map fitting_in (span_rows book)
fittings_in_spans book = fittings_from [] book

-- ── the one open row of a component ──

pub and_swap : (a b : Bool) → a && b ≡ b && a
and_swap true true = refl
and_swap true false = refl
and_swap false true = refl
and_swap false false = refl

module _ (c : ℕ) where
  abbrev pub is_open_row : SpanRow → Bool
  is_open_row row = is_none row.to && nat_eq row.component c

  length_if : {X Y : Type 0} (b d : Bool) (x : X) (y : Y) (xs : List X) (ys : List Y) → b ≡ d → length xs ≡ length ys → length (cond b (x ∷ xs) xs) ≡ length (cond d (y ∷ ys) ys)
  length_if true true x y xs ys e h = omega (arith, h)
  length_if false false x y xs ys e h = h
  length_if true false x y xs ys e h = (cc)
  length_if false true x y xs ys e h = (cc)

  pub open_alike : (serial : List ℕ) (before later : List Entry) → is_book_from before later ≡ true → is_some (component (before ++ later) serial) ≡ true → c ≡ or_zero (seq_of_serial (before ++ later) serial)
      → length (filter is_open_row (span_rows_from before later)) ≡ length (filter (λ (s : Span). same_text s.serial serial && is_none s.to) (spans later))
  open_alike serial before [] h known e = refl
  open_alike serial before (x ∷ later) h known e =
      let both = both_true (is_new (judge before x)) (is_book_from (before ++ x ∷ []) later) h in
      let same = append_assoc before (x ∷ []) later in
      at x.act both.0 refl (open_alike serial (before ++ x ∷ []) later both.1 (subst (λ (b : List Entry). is_some (component b serial) ≡ true) (sym same) known) (e ∙ ap (λ (b : List Entry). or_zero (seq_of_serial b serial)) (sym same)))
    where
      at : (act : Act) → is_new (judge before (record { doc = x.doc; act = act })) ≡ true → x.act ≡ act → length (filter is_open_row (span_rows_from (before ++ x ∷ []) later)) ≡ length (filter (λ (s : Span). same_text s.serial serial && is_none s.to) (spans later))
          → length (filter is_open_row (map (span_row before later) (span_begun act later) ++ span_rows_from (before ++ x ∷ []) later)) ≡ length (filter (λ (s : Span). same_text s.serial serial && is_none s.to) (span_begun act later ++ spans later))
      at (Fitted f) new is rest =
          let there = (fitted_is_known before x.doc f new).1 in
          let number : nat_eq (or_zero (seq_of_serial before f.serial)) c ≡ same_text f.serial serial =
          ap (λ n. nat_eq (or_zero (seq_of_serial before f.serial)) n) e
          ∙ ap (λ n. nat_eq n (or_zero (seq_of_serial (before ++ x ∷ later) serial))) (sym (serial_number_kept before (x ∷ later) f.serial there))
          ∙ one_number (before ++ x ∷ later) f.serial serial (ap is_some (component_kept before (x ∷ later) f.serial there) ∙ there) known in
          length_if (is_open_row (span_row before later (span_of f later))) (same_text f.serial serial && is_none (first_removal f.serial later)) (span_row before later (span_of f later)) (span_of f later)
          (filter is_open_row (span_rows_from (before ++ x ∷ []) later)) (filter (λ (s : Span). same_text s.serial serial && is_none s.to) (spans later))
          (ap (λ b. is_none (first_removal f.serial later) && b) number ∙ and_swap (is_none (first_removal f.serial later)) (same_text f.serial serial)) rest
      at _ new is rest = rest

  -- ── what a removal adds ──

  module _ (n m : ℕ) (p : ℕ → Bool) where
    abbrev ended : SpanRow → SpanRow
    ended row = cond {A = SpanRow} (is_open_row row) (row_to row (Some n) (Some m)) row

    abbrev removal : RemovalRow
    removal = record { seq = n; component = c; moment = m }

    abbrev added : List RemovalRow
    added = cond (p c) (removal ∷ []) []

    abbrev kept : List SpanRow → List SpanRow
    kept xs = filter (λ (row : SpanRow). p row.component) xs

    none_ended : (xs : List SpanRow) → length (filter is_open_row xs) ≡ 0 → map ended xs ≡ xs
    none_ended [] h = refl
    none_ended (x ∷ xs) h = at (is_open_row x) refl h (none_ended xs)
      where
        at : (b : Bool) → is_open_row x ≡ b → length (cond b (x ∷ filter is_open_row xs) (filter is_open_row xs)) ≡ 0 → (length (filter is_open_row xs) ≡ 0 → map ended xs ≡ xs) → (cond {A = SpanRow} b (row_to x (Some n) (Some m)) x) ∷ map ended xs ≡ x ∷ xs
        at true e h rest = absurd (omega arith)
        at false e h rest = ap (λ l. x ∷ l) (rest h)

    in_front : (x : SpanRow) (b : Bool) (l : List SpanRow) → filter_map removal_in (cond b (x ∷ l) l) ≡ cond b (cons_option (removal_in x) (filter_map removal_in l)) (filter_map removal_in l)
    in_front x true l = refl
    in_front x false l = refl

    cons_added : (a : List RemovalRow) (o : Option RemovalRow) (g h : List RemovalRow) (b : Bool) → IsPermutation (a ++ g) h → IsPermutation (a ++ cond b (cons_option o g) g) (cond b (cons_option o h) h)
    cons_added a None g h true k = k
    cons_added a (Some y) g h true k = IsPermutation-trans (a ++ y ∷ g) (y ∷ (a ++ g)) (y ∷ h) (IsPermutation-middle a y g) (IsPermutation-cons y (a ++ g) h k)
    cons_added a o g h false k = k

    added_front : (b : Bool) (y : RemovalRow) (g : List RemovalRow) → (cond b (y ∷ []) []) ++ g ≡ cond b (y ∷ g) g
    added_front true y g = refl
    added_front false y g = refl

    none_is : (o : Option ℕ) → is_none o ≡ true → o ≡ None
    none_is None h = refl
    none_is (Some k) h = (cc)

    both : (a b : Bool) → a && b ≡ true → (a ≡ true) × (b ≡ true)
    both true true h = (refl, refl)
    both true false h = (cc)
    both false b h = (cc)

    -- where one row of the component is open, its end adds the removal
    one_ended : (xs : List SpanRow) → length (filter is_open_row xs) ≡ 1 → IsPermutation (added ++ filter_map removal_in (kept xs)) (filter_map removal_in (kept (map ended xs)))
    one_ended [] h = absurd (omega arith)
    one_ended (x ∷ xs) h = at (is_open_row x) refl h (one_ended xs)
      where
        at : (b : Bool) → is_open_row x ≡ b → length (cond b (x ∷ filter is_open_row xs) (filter is_open_row xs)) ≡ 1
            → (length (filter is_open_row xs) ≡ 1 → IsPermutation (added ++ filter_map removal_in (kept xs)) (filter_map removal_in (kept (map ended xs))))
            → IsPermutation (added ++ filter_map removal_in (kept (x ∷ xs))) (filter_map removal_in (kept ((cond {A = SpanRow} b (row_to x (Some n) (Some m)) x) ∷ map ended xs)))
        at true e h rest =
            let parts = both (is_none x.to) (nat_eq x.component c) e in
            let number = (Decides-eqb x.component c).0 parts.1 in
            let none : removal_in x ≡ None = ap (λ o. removal_by x.component o x.remove_seq) (none_is x.to parts.0) in
            let same : filter_map removal_in (kept (map ended xs)) ≡ filter_map removal_in (kept xs) = ap (λ l. filter_map removal_in (kept l)) (none_ended xs (omega arith)) in
            let left : added ++ filter_map removal_in (kept (x ∷ xs)) ≡ added ++ filter_map removal_in (kept xs) =
            ap (λ l. added ++ l) (in_front x (p x.component) (kept xs) ∙ ap (λ o. cond (p x.component) (cons_option o (filter_map removal_in (kept xs))) (filter_map removal_in (kept xs))) none ∙ same_if (p x.component) (filter_map removal_in (kept xs))) in
            let right : filter_map removal_in (kept (row_to x (Some n) (Some m) ∷ map ended xs)) ≡ added ++ filter_map removal_in (kept xs) =
            in_front (row_to x (Some n) (Some m)) (p x.component) (kept (map ended xs))
            ∙ ap (λ k. cond (p k) (record { seq = n; component = k; moment = m } ∷ filter_map removal_in (kept (map ended xs))) (filter_map removal_in (kept (map ended xs)))) number
            ∙ ap (λ l. cond (p c) (removal ∷ l) l) same ∙ sym (added_front (p c) removal (filter_map removal_in (kept xs))) in
            subst (λ (l : List RemovalRow). IsPermutation (added ++ filter_map removal_in (kept (x ∷ xs))) l) (left ∙ sym right) (IsPermutation-refl (added ++ filter_map removal_in (kept (x ∷ xs))))
          where
            same_if : (b : Bool) (l : List RemovalRow) → cond b l l ≡ l
            same_if true l = refl
            same_if false l = refl
        at false e h rest =
            let g = filter_map removal_in (kept xs) in
            let k = filter_map removal_in (kept (map ended xs)) in
            subst (λ (l : List RemovalRow). IsPermutation (added ++ l) (filter_map removal_in (kept (x ∷ map ended xs)))) (sym (in_front x (p x.component) (kept xs)))
            (subst (λ (l : List RemovalRow). IsPermutation (added ++ cond (p x.component) (cons_option (removal_in x) g) g) l) (sym (in_front x (p x.component) (kept (map ended xs)))) (cons_added added (removal_in x) g k (p x.component) (rest h)))

-- ── removals ──

apart : (b : Bool) → b ≡ true → b ≡ false → ⊥
apart b h k = (cc)

module _ (p : ℕ → Bool) where
  abbrev removals_kept : List Entry → List RemovalRow
  removals_kept book = filter (λ (row : RemovalRow). p row.component) (removal_rows book)

  abbrev spans_kept : List Entry → List SpanRow
  spans_kept book = filter (λ (row : SpanRow). p row.component) (span_rows book)

  abbrev AreInSpans : List Entry → Type 0
  AreInSpans book = IsPermutation (removals_kept book) (filter_map removal_in (spans_kept book))

  pub some_open : (book : List Entry) (doc : List ℕ) (r : Removal) → IsBook book → judge book (record { doc = doc; act = Removed r }) ≡ New → length (open_spans_of book r.serial) ≡ 1
  some_open book doc r b new = at (length (open_spans_of book r.serial)) refl (one_place book r.serial b)
    where
      fits : is_none (fitted book r.serial) ≡ false
      fits = new-fitted book doc r new

      none : length (open_spans_of book r.serial) ≡ 0 → ⊥
      none h = apart (is_none (fitted book r.serial)) (ap is_none (none_find (λ (s : Span). same_text s.serial r.serial && is_none s.to) (spans book) h)) fits

      at : (k : ℕ) → length (open_spans_of book r.serial) ≡ k → k ≤ 1 → k ≡ 1
      at zero e h = absurd (none e)
      at (suc zero) e h = omega arith
      at (suc (suc k)) e h = absurd (omega arith)

  by_act : (book : List Entry) (doc : List ℕ) (act : Act) → IsBook book → judge book (record { doc = doc; act = act }) ≡ New → AreInSpans book
      → IsPermutation (filter (λ (row : RemovalRow). p row.component) (removal_rows book ++ removals_by book act)) (filter_map removal_in (filter (λ (row : SpanRow). p row.component) (map (span_ended book act) (span_rows book) ++ spans_opened book act)))
  by_act book doc (Removed r) b new h =
      let c = or_zero (seq_of_serial book r.serial) in
      let row : RemovalRow = record { seq = next book; component = c; moment = r.moment } in
      let one : length (filter (is_open_row c) (span_rows book)) ≡ 1 = open_alike c r.serial [] book b.judged (removed_is_known book doc r (ap is_new new)) refl ∙ some_open book doc r b new in
      let more = one_ended c (next book) r.moment p (span_rows book) one in
      subst (λ (l : List RemovalRow). IsPermutation l (filter_map removal_in (filter (λ (row : SpanRow). p row.component) (map (span_ended book (Removed r)) (span_rows book) ++ [])))) (sym (filter-append (λ (row : RemovalRow). p row.component) (removal_rows book) (row ∷ [])))
      (subst (λ (l : List SpanRow). IsPermutation (removals_kept book ++ cond (p c) (row ∷ []) []) (filter_map removal_in (filter (λ (row : SpanRow). p row.component) l))) (sym (append-nil (map (span_ended book (Removed r)) (span_rows book))))
      (IsPermutation-trans (removals_kept book ++ cond (p c) (row ∷ []) []) (cond (p c) (row ∷ []) [] ++ removals_kept book) (filter_map removal_in (filter (λ (row : SpanRow). p row.component) (map (span_ended book (Removed r)) (span_rows book))))
      (IsPermutation-append_comm (removals_kept book) (cond (p c) (row ∷ []) []))
      (IsPermutation-trans (cond (p c) (row ∷ []) [] ++ removals_kept book) (cond (p c) (row ∷ []) [] ++ filter_map removal_in (spans_kept book)) (filter_map removal_in (filter (λ (row : SpanRow). p row.component) (map (span_ended book (Removed r)) (span_rows book))))
      (IsPermutation-append_right (cond (p c) (row ∷ []) []) (removals_kept book) (filter_map removal_in (spans_kept book)) h) more)))
  by_act book doc (Fitted f) b new h =
      subst (λ (l : List RemovalRow). IsPermutation (filter (λ (row : RemovalRow). p row.component) l) (filter_map removal_in (filter (λ (row : SpanRow). p row.component) (map (λ (row : SpanRow). row) (span_rows book) ++ spans_opened book (Fitted f))))) (sym (append-nil (removal_rows book)))
      (subst (λ (l : List RemovalRow). IsPermutation (removals_kept book) l)
      (sym (ap (λ l. filter_map removal_in (filter (λ (row : SpanRow). p row.component) (l ++ spans_opened book (Fitted f)))) (map-id (span_rows book))
      ∙ ap (filter_map removal_in) (filter-append (λ (row : SpanRow). p row.component) (span_rows book) (spans_opened book (Fitted f)))
      ∙ filter_map-append removal_in (spans_kept book) (filter (λ (row : SpanRow). p row.component) (spans_opened book (Fitted f)))
      ∙ ap (λ l. filter_map removal_in (spans_kept book) ++ l) (opened (p (or_zero (seq_of_serial book f.serial)))) ∙ append-nil (filter_map removal_in (spans_kept book)))) h)
    where
      opened : (c : Bool) → filter_map removal_in (cond c (span_row book [] (span_of f []) ∷ []) []) ≡ []
      opened true = refl
      opened false = refl
  by_act book doc act b new h =
      subst (λ (l : List RemovalRow). IsPermutation (filter (λ (row : RemovalRow). p row.component) l) (filter_map removal_in (filter (λ (row : SpanRow). p row.component) (map (λ (row : SpanRow). row) (span_rows book) ++ [])))) (sym (append-nil (removal_rows book)))
      (subst (λ (l : List SpanRow). IsPermutation (removals_kept book) (filter_map removal_in (filter (λ (row : SpanRow). p row.component) l))) (sym (append-nil (map (λ (row : SpanRow). row) (span_rows book)) ∙ map-id (span_rows book))) h)

  -- the removals of a book of some components are those that end their spans
  pub removals_in_spans : (book : List Entry) → IsBook book → IsPermutation (filter (λ (row : RemovalRow). p row.component) (removal_rows book)) (filter_map removal_in (filter (λ (row : SpanRow). p row.component) (span_rows book)))
  removals_in_spans = of_each_book AreInSpans (λ book e b shape new h.
      subst (λ (l : List RemovalRow). IsPermutation (filter (λ (row : RemovalRow). p row.component) l) (filter_map removal_in (spans_kept (book ++ e ∷ [])))) (sym (gives-more (λ before x. removals_by before x.act) [] book e))
      (subst (λ (l : List SpanRow). IsPermutation (filter (λ (row : RemovalRow). p row.component) (removal_rows book ++ removals_by book e.act)) (filter_map removal_in (filter (λ (row : SpanRow). p row.component) l))) (sym (span_rows-more book e b new))
      (by_act book e.doc e.act b new h))) (IsPermutation-refl [])
