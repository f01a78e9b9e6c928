-- Spans that take turns are what their fittings and removals make; and so are those of a component of a book.
use Rattle.std.proofs.Common.{◌≡◌, inl, inr, ◌≤◌, ◌<◌, ◌+◌, ℕ, nat_lt, nat_eq, Bool, true, false, ◌&&◌, cond, length, List, [], ◌∷◌, map, filter, All, Option, Some, None, Result, Ok, Err, refl, sym, ap, ap₂, subst, subst₂, ◌∙◌, arith}
use Rattle.std.specs.Prelude.{IfSome, slice_get, drop}
use Rattle.std.specs.List.{cons_option, filter_map, list_all}
use Rattle.std.specs.List.Sorted.{IsPermutation}
use Rattle.std.proofs.lemmas.Bool.Decides.{nat_tests}
use Rattle.std.proofs.lemmas.List.Elements.{All-nil, All-cons, All-filter, All-head, All-tail, All-drop}
use Rattle.sqlite_keyed.proofs.ListLemmas.{filter-map}
use Rattle.mx_book.specs.commands.Act.{Entry}
use Rattle.mx_book.specs.Book.{IsBook}
use Rattle.mx_book.specs.declared.limits.TheConstants.{MOST_ENTRIES}
use Rattle.mx_base.specs.declared.rows.rows.FittingRow.{FittingRow}
use Rattle.mx_base.specs.declared.rows.rows.RemovalRow.{RemovalRow}
use Rattle.mx_base.specs.declared.rows.rows.SpanRow.{SpanRow}
use Rattle.mx_base.specs.rows.Rising.{IsRising}
use Rattle.mx_base.specs.rows.Rows.{FitsFitting, FitsRemoval, FitsSpan}
use Rattle.mx_base.proofs.RowsProofs.SortedLemmas.{IsFrom-rising, keys_below, sorted_once}
use Rattle.mx_registers.specs.Registers.{fitting_rows, next, removal_rows}
use Rattle.mx_registers.proofs.RegisterLemmas.{fitting_rows-rising, removal_rows-rising}
use Rattle.mx_registers.specs.kept.Spans.{fitting_in, removal_by, removal_in, span_rows}
use Rattle.mx_registers.proofs.KeptProofs.SpanRegisters.{fittings_in_spans, removals_in_spans}
use Rattle.mx_registers.proofs.KeptProofs.SpanRows.{row_to}
use Rattle.mx_layout.specs.TableName.{TableName}
use Rattle.mx_layout.specs.declared.fault.Table.TheVariants as table
use Rattle.mx_moves.specs.steps.Components.{fittings_by, removals_by, spans_by}
use Rattle.mx_moves.specs.steps.Pairing.{AreTurns, are_fittings_numbered, are_removals_numbered, is_before, is_number, last_span, next_span, none_over, paired, span_closed, span_open, spans_made, with_front}
use Rattle.mx_moves.proofs.StepsProofs.PageLemmas.{rises_left}
use Rattle.mx_moves.proofs.StepsProofs.TurnLemmas.{Ends, take_turns}

-- ── spans that take turns ──

abbrev Pairs : SpanRow → List SpanRow → Option ℕ → Option ℕ → Type 0
Pairs s rest q o = paired (fitting_in s ∷ map fitting_in rest) (cons_option (removal_by s.component o q) (filter_map removal_in rest)) ≡ Ok (row_to s q o ∷ rest)

open_at : (s : SpanRow) (rest : List SpanRow) → rest ≡ [] → Pairs s rest None None
open_at s [] e = refl
open_at s (x ∷ rest) e = absurd cc

before_next : (n high : ℕ) (rest : List SpanRow) → AreTurns (n + 1) rest high → is_before n (map fitting_in rest) ≡ true
before_next n high [] h = refl
before_next n high (t ∷ rest) h = (let first = h.0 in grind (arith, nat_tests))

closed_at : (s : SpanRow) (rest : List SpanRow) (n m high : ℕ) → s.fit_seq < n → AreTurns (n + 1) rest high → paired (map fitting_in rest) (filter_map removal_in rest) ≡ Ok rest → Pairs s rest (Some n) (Some m)
closed_at s rest n m high less turns so_far =
    let one : nat_lt s.fit_seq n ≡ true = grind (arith, nat_tests) in
    let row : RemovalRow = record { seq = n; component = s.component; moment = m } in
    ap₂ (λ a b. with_front (cond a (cond b (Ok (span_closed (fitting_in s) row)) (Err table.Fit1)) (Err table.Removal1)) (paired (map fitting_in rest) (filter_map removal_in rest))) one (before_next n high rest turns)
    ∙ ap (with_front (Ok (span_closed (fitting_in s) row))) so_far

pairs : (low high : ℕ) (rows : List SpanRow) → AreTurns low rows high → paired (map fitting_in rows) (filter_map removal_in rows) ≡ Ok rows
pairs low high [] h = refl
pairs low high (s ∷ rest) h = by h.1 (λ n. pairs (n + 1) high rest)
  where
    by : Ends s rest high → ((n : ℕ) → AreTurns (n + 1) rest high → paired (map fitting_in rest) (filter_map removal_in rest) ≡ Ok rest) → Pairs s rest s.remove_seq s.to
    by (inl c) more = subst₂ (Pairs s rest) (sym c.2) (sym c.3) (closed_at s rest c.0 c.1 high c.4 c.5 (more c.0 c.5))
    by (inr o) more = subst₂ (Pairs s rest) (sym o.0) (sym o.1) (open_at s rest o.2)

-- ── those of a component of a book ──

rises : (low high : ℕ) (xs : List SpanRow) → AreTurns low xs high → IsRising (λ (row : RemovalRow). row.seq) low (filter_map removal_in xs) high
rises low high [] h = h
rises low high (s ∷ rest) h = by h.1 (λ n. rises (n + 1) high rest)
  where
    by : Ends s rest high → ((n : ℕ) → AreTurns (n + 1) rest high → IsRising (λ (row : RemovalRow). row.seq) (n + 1) (filter_map removal_in rest) high) → IsRising (λ (row : RemovalRow). row.seq) low (cons_option (removal_by s.component s.to s.remove_seq) (filter_map removal_in rest)) high
    by (inl c) more = subst₂ (λ q o. IsRising (λ (row : RemovalRow). row.seq) low (cons_option (removal_by s.component o q) (filter_map removal_in rest)) high) (sym c.2) (sym c.3) (omega (arith, h.0, c.4), more c.0 c.5)
    by (inr o) more = subst₂ (λ q t. IsRising (λ (row : RemovalRow). row.seq) low (cons_option (removal_by s.component t q) (filter_map removal_in rest)) high) (sym o.0) (sym o.1)
        (subst (λ r. IsRising (λ (row : RemovalRow). row.seq) low (filter_map removal_in r) high) (sym o.2) (omega (arith, h.0, o.3)))

-- lists that rise by a number and have the same elements are one
one_list : {Row : Type 0} (key : Row → ℕ) (low high limit : ℕ) (xs ys : List Row) → IsRising key low xs high → IsRising key low ys limit → IsPermutation xs ys → xs ≡ ys
one_list key low high limit xs ys up also same = sorted_once key low low high xs ys up (IsFrom-rising key low limit ys also) same

paired_of_book : (component : ℕ) (book : List Entry) → IsBook book → paired (fittings_by book component) (removals_by book component) ≡ Ok (spans_by book component)
paired_of_book component book b =
    let spans = spans_by book component in
    let turns = take_turns component book b in
    let fitted : fittings_by book component ≡ map fitting_in spans = ap (filter (λ (row : FittingRow). nat_eq row.component component)) (fittings_in_spans book) ∙ filter-map (λ (row : FittingRow). nat_eq row.component component) fitting_in (span_rows book) in
    let gone : removals_by book component ≡ filter_map removal_in spans =
    one_list (λ (row : RemovalRow). row.seq) 1 (length book + 1) (next book) (removals_by book component) (filter_map removal_in spans)
    (rises_left (λ (row : RemovalRow). row.seq) (λ (row : RemovalRow). nat_eq row.component component) 1 (length book + 1) (removal_rows book) (removal_rows-rising book b.shaped)) (rises 1 (next book) spans turns) (removals_in_spans (λ n. nat_eq n component) book b) in
    ap₂ paired fitted gone ∙ pairs 1 (next book) spans turns

-- ── they have numbers of entries ──

is_one : (n : ℕ) → n ≤ MOST_ENTRIES → is_number n ≡ true
is_one n h = grind (arith, nat_tests)

numbered : {Row : Type 0} (key : Row → ℕ) (high : ℕ) (rows : List Row) → high ≤ MOST_ENTRIES + 1 → All (λ row. key row < high) rows → list_all (λ row. is_number (key row)) rows ≡ true
numbered key high [] few below = refl
numbered key high (row ∷ rows) few below =
    let first = All-head (λ r. key r < high) row rows below in
    ap₂ ◌&&◌ (is_one (key row) (omega arith)) (numbered key high rows few (All-tail (λ r. key r < high) row rows below))

fittings_numbered : (component : ℕ) (book : List Entry) → IsBook book → are_fittings_numbered (fittings_by book component) ≡ true
fittings_numbered component book b =
    let few = b.few in
    numbered (λ (row : FittingRow). row.seq) (length book + 1) (fittings_by book component) (omega arith)
    (All-filter (λ (row : FittingRow). nat_eq row.component component) (λ (row : FittingRow). row.seq < length book + 1) (fitting_rows book) (keys_below (λ (row : FittingRow). row.seq) 1 (length book + 1) (fitting_rows book) (fitting_rows-rising book b.shaped)))

removals_numbered : (component : ℕ) (book : List Entry) → IsBook book → are_removals_numbered (removals_by book component) ≡ true
removals_numbered component book b =
    let few = b.few in
    numbered (λ (row : RemovalRow). row.seq) (length book + 1) (removals_by book component) (omega arith)
    (All-filter (λ (row : RemovalRow). nat_eq row.component component) (λ (row : RemovalRow). row.seq < length book + 1) (removal_rows book) (keys_below (λ (row : RemovalRow). row.seq) 1 (length book + 1) (removal_rows book) (removal_rows-rising book b.shaped)))

pub made_of_book : (component : ℕ) (book : List Entry) → IsBook book → spans_made (fittings_by book component) (removals_by book component) ≡ Ok (spans_by book component)
made_of_book component book b =
    ap₂ (λ f r. cond f (cond r (paired (fittings_by book component) (removals_by book component)) (Err table.Removal1)) (Err table.Fit1)) (fittings_numbered component book b) (removals_numbered component book b)
    ∙ paired_of_book component book b

-- ── spans that are made of rows that fit, fit ──

open_fits : (f : FittingRow) → FitsFitting f → FitsSpan (span_open f)
open_fits f h = record { fit_seq = h.seq; component = h.component; aircraft = h.aircraft; position = h.position; from = h.moment; remove_seq = tt; to = tt }

closed_fits : (f : FittingRow) (r : RemovalRow) → FitsFitting f → FitsRemoval r → FitsSpan (span_closed f r)
closed_fits f r h e = record { fit_seq = h.seq; component = h.component; aircraft = h.aircraft; position = h.position; from = h.moment; remove_seq = e.seq; to = e.moment }

-- what is in a result has a fact
abbrev In : (SpanRow → Type 0) → Result SpanRow TableName → Type 0
In P (Ok s) = P s
In P (Err name) = Unit {0}

last_fits : (f : FittingRow) (later : List FittingRow) → FitsFitting f → In FitsSpan (last_span f later)
last_fits f [] h = open_fits f h
last_fits f (g ∷ later) h = tt

next_fits : (f : FittingRow) (later : List FittingRow) (o : Option RemovalRow) → FitsFitting f → IfSome o FitsRemoval → In FitsSpan (next_span f later o)
next_fits f later None h e = last_fits f later h
next_fits f later (Some r) h e = at (nat_lt f.seq r.seq) (is_before r.seq later)
  where
    at : (a b : Bool) → In FitsSpan (cond a (cond b (Ok (span_closed f r)) (Err table.Fit1)) (Err table.Removal1))
    at true true = closed_fits f r h e
    at true false = tt
    at false b = tt

front_fits : (one : Result SpanRow TableName) (rest : Result (List SpanRow) TableName) (spans : List SpanRow) → In FitsSpan one → ((more : List SpanRow) → rest ≡ Ok more → All FitsSpan more) → with_front one rest ≡ Ok spans → All FitsSpan spans
front_fits (Err name) rest spans h more e = absurd cc
front_fits (Ok s) (Err name) spans h more e = absurd cc
front_fits (Ok s) (Ok rows) spans h more e = let same : s ∷ rows ≡ spans = cc in subst (All FitsSpan) same (All-cons FitsSpan s rows h (more rows refl))

first_fits : (rs : List RemovalRow) → All FitsRemoval rs → IfSome (slice_get rs 0) FitsRemoval
first_fits [] all = tt
first_fits (r ∷ rs) all = All-head FitsRemoval r rs all

none_fit : (rs : List RemovalRow) (spans : List SpanRow) → none_over rs ≡ Ok spans → All FitsSpan spans
none_fit [] spans e = let none : [] ≡ spans = cc in subst (All FitsSpan) none (All-nil FitsSpan)
none_fit (r ∷ rs) spans e = absurd cc

paired_fit : (fs : List FittingRow) (rs : List RemovalRow) (spans : List SpanRow) → All FitsFitting fs → All FitsRemoval rs → paired fs rs ≡ Ok spans → All FitsSpan spans
paired_fit [] rs spans fit_f fit_r e = none_fit rs spans e
paired_fit (f ∷ later) rs spans fit_f fit_r e =
    front_fits (next_span f later (slice_get rs 0)) (paired later (drop 1 rs)) spans (next_fits f later (slice_get rs 0) (All-head FitsFitting f later fit_f) (first_fits rs fit_r))
    (λ more is. paired_fit later (drop 1 rs) more (All-tail FitsFitting f later fit_f) (All-drop FitsRemoval 1 rs fit_r) is) e

pub spans_fit : (fs : List FittingRow) (rs : List RemovalRow) (spans : List SpanRow) → All FitsFitting fs → All FitsRemoval rs → spans_made fs rs ≡ Ok spans → All FitsSpan spans
spans_fit fs rs spans fit_f fit_r = at (are_fittings_numbered fs) (are_removals_numbered rs)
  where
    at : (f r : Bool) → cond f (cond r (paired fs rs) (Err table.Removal1)) (Err table.Fit1) ≡ Ok spans → All FitsSpan spans
    at true true e = paired_fit fs rs spans fit_f fit_r e
    at true false e = absurd cc
    at false r e = absurd cc
