-- The component that a step moves next: no row has a number between the mark and its.
use Rattle.std.proofs.Common.{refl, sym, subst, ap, ◌∙◌, ◌≡◌, ℕ, ◌+◌, ◌<◌, length, List, [], ◌∷◌, ◌++◌, Bool, true, false, cond, nat_eq, ◌||◌, Option, Some, None, append_assoc}
use Rattle.std.specs.Prelude.{map, is_some}
use Rattle.std.specs.List.{list_any, AllByRecursion}
use Rattle.std.specs.Option.{option_or}
use Rattle.std.proofs.lemmas.Bool.Decides.{Decides-eqb}
use Rattle.std.proofs.lemmas.List.Folds.{list_any-append}
use Rattle.mx_book.specs.commands.Act.{Act, Entry, Added, Listed, Loaded, Opened, Flown, Fitted, Removed, Released, Deferred, Extended}
use Rattle.mx_book.specs.commands.Same.{same_text}
use Rattle.mx_book.specs.commands.Shape.{has_shape}
use Rattle.mx_book.specs.declared.commands.item.Item.TheVariants.{Component}
use Rattle.mx_book.proofs.CommandsProofs.SameLemmas.{text_same}
use Rattle.mx_book.specs.declared.verdict.Verdict.TheVariants.{New}
use Rattle.mx_book.specs.Register.{component}
use Rattle.mx_book.specs.Book.{IsBook, is_new, is_book_from}
use Rattle.mx_book.specs.Judge.{judge}
use Rattle.mx_book.specs.Span.{span_begun}
use Rattle.mx_book.proofs.JudgeLemmas.{both_true, IsBook-entered}
use Rattle.mx_base.specs.declared.rows.rows.ComponentRow.{ComponentRow}
use Rattle.mx_base.specs.declared.rows.rows.FittingRow.{FittingRow}
use Rattle.mx_base.specs.declared.rows.rows.RemovalRow.{RemovalRow}
use Rattle.mx_registers.specs.Names.{seq_of_serial, or_zero}
use Rattle.mx_registers.specs.Registers.{gives_by, next, components_by, removals_by, component_rows, fitting_rows, removal_rows}
use Rattle.mx_registers.proofs.NameLemmas.{serial_number}
use Rattle.mx_registers.proofs.NewLemmas.{fitted_is_known, removed_is_known}
use Rattle.mx_registers.proofs.RegisterLemmas.{gives-more, component_rows-rising}
use Rattle.mx_base.specs.declared.rows.rows.SpanRow.{SpanRow}
use Rattle.mx_registers.specs.kept.Spans.{fitting_in, span_row, span_rows, span_rows_from}
use Rattle.mx_registers.specs.points.Moves.{IsNext}
use Rattle.mx_registers.specs.points.Points.{next_mark, moving}
use Rattle.mx_registers.proofs.KeptProofs.Induction.{of_each_book}
use Rattle.mx_registers.proofs.KeptProofs.ItemNumbers.{item_at_last, serial_at_item}
use Rattle.mx_registers.proofs.KeptProofs.KnownLemmas.{component-more, component_kept}
use Rattle.mx_registers.proofs.PointsProofs.NextLemmas.{Apart, next_is_least, numbers_rise}
use Rattle.mx_registers.proofs.KeptProofs.SpanRegisters.{fittings_in_spans}
use Rattle.mx_registers.proofs.KeptProofs.SpanRows.{serial_number_kept}

-- ── a component of a book has a row with its number ──

abbrev has_row : ℕ → List ComponentRow → Bool
has_row n rows = list_any (λ (row : ComponentRow). nat_eq row.seq n) rows

abbrev HasRows : List Entry → Type 0
HasRows book = (serial : List ℕ) → is_some (component book serial) ≡ true → has_row (or_zero (seq_of_serial book serial)) (component_rows book) ≡ true

or_left : (a b : Bool) → a ≡ true → a || b ≡ true
or_left true b h = refl
or_left false b h = (cc)

or_right : (a b : Bool) → b ≡ true → a || b ≡ true
or_right true b h = refl
or_right false b h = h

none_is : {X : Type 0} (o : Option X) → is_some o ≡ false → o ≡ None
none_is None h = refl
none_is (Some x) h = (cc)

if_some : {X : Type 0} (x : X) (b : Bool) → is_some (cond b (Some x) None) ≡ true → b ≡ true
if_some x true h = refl
if_some x false h = (cc)

new_row : (book : List Entry) (doc : List ℕ) (act : Act) (serial : List ℕ) → IsBook (book ++ record { doc = doc; act = act } ∷ []) → is_some (component (record { doc = doc; act = act } ∷ []) serial) ≡ true
    → has_row (or_zero (seq_of_serial (book ++ record { doc = doc; act = act } ∷ []) serial)) (components_by book act) ≡ true
new_row book doc (Listed c) serial after h =
    let e : Entry = record { doc = doc; act = Listed c } in
    let same : c.serial ≡ serial = (text_same c.serial serial).0 (if_some c (same_text c.serial serial) h) in
    let number : next book ≡ or_zero (seq_of_serial (book ++ e ∷ []) serial) = serial_number (book ++ e ∷ []) serial (next book) after.judged (serial_at_item (book ++ e ∷ []) (next book) serial (item_at_last book e ∙ ap (λ (t : List ℕ). Some (Component t)) same)) in
    or_left (nat_eq (next book) (or_zero (seq_of_serial (book ++ e ∷ []) serial))) false ((Decides-eqb (next book) (or_zero (seq_of_serial (book ++ e ∷ []) serial))).1 number)
new_row book doc (Added a positions) serial after h = (cc)
new_row book doc (Loaded p tasks) serial after h = (cc)
new_row book doc (Opened o) serial after h = (cc)
new_row book doc (Flown s) serial after h = (cc)
new_row book doc (Fitted f) serial after h = (cc)
new_row book doc (Removed r) serial after h = (cc)
new_row book doc (Released r lines) serial after h = (cc)
new_row book doc (Deferred d) serial after h = (cc)
new_row book doc (Extended x) serial after h = (cc)

more_rows : (book : List Entry) (e : Entry) (n : ℕ) → has_row n (component_rows (book ++ e ∷ [])) ≡ has_row n (component_rows book) || has_row n (components_by book e.act)
more_rows book e n = ap (has_row n) (gives-more (λ before x. components_by before x.act) [] book e) ∙ list_any-append (λ (row : ComponentRow). nat_eq row.seq n) (component_rows book) (components_by book e.act)

rows_step : (book : List Entry) (e : Entry) → IsBook book → has_shape e ≡ true → judge book e ≡ New → HasRows book → HasRows (book ++ e ∷ [])
rows_step book e b shape new has serial known = at (is_some (component book serial)) refl
  where
    n : ℕ
    n = or_zero (seq_of_serial (book ++ e ∷ []) serial)

    at : (c : Bool) → is_some (component book serial) ≡ c → has_row (or_zero (seq_of_serial (book ++ e ∷ []) serial)) (component_rows (book ++ e ∷ [])) ≡ true
    at true k =
        more_rows book e (or_zero (seq_of_serial (book ++ e ∷ []) serial))
        ∙ or_left (has_row (or_zero (seq_of_serial (book ++ e ∷ []) serial)) (component_rows book)) (has_row (or_zero (seq_of_serial (book ++ e ∷ []) serial)) (components_by book e.act))
        (ap (λ m. has_row m (component_rows book)) (serial_number_kept book (e ∷ []) serial k) ∙ has serial k)
    at false k =
        let here : is_some (component (e ∷ []) serial) ≡ true = sym (ap is_some (component-more book (e ∷ []) serial ∙ ap (λ o. option_or o (component (e ∷ []) serial)) (none_is (component book serial) k))) ∙ known in
        more_rows book e (or_zero (seq_of_serial (book ++ e ∷ []) serial))
        ∙ or_right (has_row (or_zero (seq_of_serial (book ++ e ∷ []) serial)) (component_rows book)) (has_row (or_zero (seq_of_serial (book ++ e ∷ []) serial)) (components_by book e.act))
        (new_row book e.doc e.act serial (IsBook-entered book e b shape new) here)

-- a component of a book has a row with its number
pub component_has_row : (book : List Entry) → IsBook book → (serial : List ℕ) → is_some (component book serial) ≡ true → has_row (or_zero (seq_of_serial book serial)) (component_rows book) ≡ true
component_has_row = of_each_book HasRows rows_step (λ serial h. (cc))

-- ── what holds of the numbers of components holds of those in the rows ──

pub of_number : (P : ℕ → Type 0) (n : ℕ) (rows : List ComponentRow) → AllByRecursion P (map (λ (row : ComponentRow). row.seq) rows) → has_row n rows ≡ true → P n
of_number P n [] h e = (cc)
of_number P n (x ∷ rows) h e = at (nat_eq x.seq n) refl e (of_number P n rows h.1)
  where
    at : (b : Bool) → nat_eq x.seq n ≡ b → b || has_row n rows ≡ true → (has_row n rows ≡ true → P n) → P n
    at true f e rest = subst P ((Decides-eqb x.seq n).0 f) h.0
    at false f e rest = rest e

module _ (P : ℕ → Type 0) where
  pub spans_from : (before later : List Entry) → is_book_from before later ≡ true → ((serial : List ℕ) → is_some (component (before ++ later) serial) ≡ true → P (or_zero (seq_of_serial (before ++ later) serial))) → AllByRecursion (λ (row : SpanRow). P row.component) (span_rows_from before later)
  spans_from before [] h each = tt
  spans_from before (x ∷ later) h each =
      let both = both_true (is_new (judge before x)) (is_book_from (before ++ x ∷ []) later) h in
      at x.act both.0 (spans_from (before ++ x ∷ []) later both.1 (subst (λ (b : List Entry). (serial : List ℕ) → is_some (component b serial) ≡ true → P (or_zero (seq_of_serial b serial))) (sym (append_assoc before (x ∷ []) later)) each))
    where
      at : (act : Act) → is_new (judge before (record { doc = x.doc; act = act })) ≡ true → AllByRecursion (λ (row : SpanRow). P row.component) (span_rows_from (before ++ x ∷ []) later)
          → AllByRecursion (λ (row : SpanRow). P row.component) (map (span_row before later) (span_begun act later) ++ span_rows_from (before ++ x ∷ []) later)
      at (Fitted f) new rest =
          let known = (fitted_is_known before x.doc f new).1 in
          (subst P (serial_number_kept before (x ∷ later) f.serial known) (each f.serial (ap is_some (component_kept before (x ∷ later) f.serial known) ∙ known)), rest)
      at _ new rest = rest

  pub removals_from : (before later : List Entry) → is_book_from before later ≡ true → ((serial : List ℕ) → is_some (component (before ++ later) serial) ≡ true → P (or_zero (seq_of_serial (before ++ later) serial))) → AllByRecursion (λ (row : RemovalRow). P row.component) (gives_by removals_by before later)
  removals_from before [] h each = tt
  removals_from before (x ∷ later) h each =
      let both = both_true (is_new (judge before x)) (is_book_from (before ++ x ∷ []) later) h in
      at x.act both.0 (removals_from (before ++ x ∷ []) later both.1 (subst (λ (b : List Entry). (serial : List ℕ) → is_some (component b serial) ≡ true → P (or_zero (seq_of_serial b serial))) (sym (append_assoc before (x ∷ []) later)) each))
    where
      at : (act : Act) → is_new (judge before (record { doc = x.doc; act = act })) ≡ true → AllByRecursion (λ (row : RemovalRow). P row.component) (gives_by removals_by (before ++ x ∷ []) later)
          → AllByRecursion (λ (row : RemovalRow). P row.component) (removals_by before act ++ gives_by removals_by (before ++ x ∷ []) later)
      at (Removed r) new rest =
          let known = removed_is_known before x.doc r new in
          (subst P (serial_number_kept before (x ∷ later) r.serial known) (each r.serial (ap is_some (component_kept before (x ∷ later) r.serial known) ∙ known)), rest)
      at _ new rest = rest

  pub fittings_of : (xs : List SpanRow) → AllByRecursion (λ (row : SpanRow). P row.component) xs → AllByRecursion (λ (row : FittingRow). P row.component) (map fitting_in xs)
  fittings_of [] h = tt
  fittings_of (x ∷ xs) h = (h.0, fittings_of xs h.1)

-- ── the next component ──

module _ (book : List Entry) (mark thing : ℕ) (b : IsBook book) (h : next_mark (moving 2 mark) book ≡ Some thing) where
  least : (mark < thing) × AllByRecursion (Apart mark thing) (map (λ (row : ComponentRow). row.seq) (component_rows book))
  least = next_is_least mark thing 1 (length book + 1) (map (λ (row : ComponentRow). row.seq) (component_rows book)) (numbers_rise (λ (row : ComponentRow). row.seq) 1 (length book + 1) (component_rows book) (component_rows-rising book b.shaped)) h

  apart : (serial : List ℕ) → is_some (component book serial) ≡ true → Apart mark thing (or_zero (seq_of_serial book serial))
  apart serial known = of_number (Apart mark thing) (or_zero (seq_of_serial book serial)) (component_rows book) least.1 (component_has_row book b serial known)

  pub spans_next : IsNext (λ (row : SpanRow). row.component) mark thing (span_rows book)
  spans_next = (least.0, spans_from (Apart mark thing) [] book b.judged apart)

  pub fittings_next : IsNext (λ (row : FittingRow). row.component) mark thing (fitting_rows book)
  fittings_next = (least.0, subst (λ l. AllByRecursion (λ (row : FittingRow). Apart mark thing row.component) l) (sym (fittings_in_spans book)) (fittings_of (Apart mark thing) (span_rows book) spans_next.1))

  pub removals_next : IsNext (λ (row : RemovalRow). row.component) mark thing (removal_rows book)
  removals_next = (least.0, removals_from (Apart mark thing) [] book b.judged apart)
