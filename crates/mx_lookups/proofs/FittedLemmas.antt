-- Where a component is fitted, as its open span says it.
use Rattle.std.proofs.Common.{◌≡◌, ℕ, pos, List, Option, Some, None, ap, ap₂, refl, subst, sym}
use Rattle.std.specs.Prelude.{IsSome, MatchOption, slice_get}
use Rattle.std.specs.Option.{option_map}
use Rattle.sqlite.specs.declared.types.Value.TheVariants.{Int}
use Rattle.sqlite.specs.Tree.{Trees}
use Rattle.mx_book.specs.Span.{Span}
use Rattle.mx_base.specs.declared.rows.rows.SpanRow.{SpanRow}
use Rattle.mx_layout.specs.kept.Cells.{kept_span2}
use Rattle.mx_table_rows.specs.chosen.Choices.{is_open}
use Rattle.mx_row_rules.specs.found.Spans.{span_aircraft}
use Rattle.mx_lookups.specs.numbers.AnyRows.{Gives}
use Rattle.mx_lookups.specs.numbers.Given.{NumberFitted, PlaceFitted, SpanFitted, TailFitted, TailOfNumber}

-- ── of a book ──

-- what has no registration has no position
pub nowhere : (o : Option Span) → option_map (λ (s : Span). s.tail) o ≡ None → None ≡ option_map (λ (s : Span). s.position) o
nowhere None h = refl
nowhere (Some s) h = absurd cc

-- and is in no place
pub no_place : (o : Option Span) → None ≡ option_map (λ (s : Span). s.tail) o → None ≡ option_map {U = List ℕ × List ℕ} (λ (s : Span). (s.tail, s.position)) o
no_place None h = refl
no_place (Some s) h = absurd cc

-- the registration and the position are the place
pub one_place : (o : Option Span) (tail at : List ℕ) → Some tail ≡ option_map (λ (s : Span). s.tail) o → Some at ≡ option_map (λ (s : Span). s.position) o → Some (tail, at) ≡ option_map {U = List ℕ × List ℕ} (λ (s : Span). (s.tail, s.position)) o
one_place None tail at h g = absurd cc
one_place (Some s) tail at h g =
    let one : tail ≡ s.tail = cc in
    let two : at ≡ s.position = cc in
    ap₂ (λ (t : List ℕ) (p : List ℕ). Some (t, p)) one two

-- the registration of the place
pub tail_in_place : (o : Option Span) → option_map (λ (p : List ℕ × List ℕ). p.0) (option_map {U = List ℕ × List ℕ} (λ (s : Span). (s.tail, s.position)) o) ≡ option_map (λ (s : Span). s.tail) o
tail_in_place None = refl
tail_in_place (Some s) = refl

-- ── over any rows ──

-- the span has the number of the aircraft
pub number_spanned : (trees : Trees) (serial : List ℕ) (found : Option SpanRow) → SpanFitted serial trees found → NumberFitted serial trees (option_map (λ (row : SpanRow). row.aircraft) found)
number_spanned trees serial found one = record { found = one.found; first = one.first; then = at one.found one.then }
  where
    at : (o : Option ℕ) → MatchOption o (found ≡ None) (λ n. Gives kept_span2 (is_open 1 (Int (pos n))) (λ rows. slice_get rows 0) trees found)
        → MatchOption o (option_map (λ (row : SpanRow). row.aircraft) found ≡ None) (λ n. Gives kept_span2 (is_open 1 (Int (pos n))) span_aircraft trees (option_map (λ (row : SpanRow). row.aircraft) found))
    at None none = ap (option_map (λ (row : SpanRow). row.aircraft)) none
    at (Some n) gave = (gave.0, gave.1, ap (option_map (λ (row : SpanRow). row.aircraft)) gave.2)

-- the place has the registration of that aircraft
pub tail_placed : (trees : Trees) (serial : List ℕ) (place : Option (List ℕ × List ℕ)) → PlaceFitted serial trees place → TailFitted serial trees (option_map (λ (p : List ℕ × List ℕ). p.0) place)
tail_placed trees serial place one = record { found = option_map (λ (row : SpanRow). row.aircraft) one.found; first = number_spanned trees serial one.found one.first; then = at one.found one.then }
  where
    at : (o : Option SpanRow) → MatchOption o (place ≡ None) (λ row. (tail : List ℕ) × TailOfNumber row.aircraft trees (Some tail) × (place ≡ Some (tail, row.position)))
        → MatchOption (option_map (λ (row : SpanRow). row.aircraft) o) (option_map (λ (p : List ℕ × List ℕ). p.0) place ≡ None) (λ n. IsSome (option_map (λ (p : List ℕ × List ℕ). p.0) place) × TailOfNumber n trees (option_map (λ (p : List ℕ × List ℕ). p.0) place))
    at None none = ap (option_map (λ (p : List ℕ × List ℕ). p.0)) none
    at (Some row) said =
        let is : option_map (λ (p : List ℕ × List ℕ). p.0) place ≡ Some said.0 = ap (option_map (λ (p : List ℕ × List ℕ). p.0)) said.2 in
        (subst (λ (o : Option (List ℕ)). IsSome o) (sym is) refl, subst (TailOfNumber row.aircraft trees) (sym is) said.1)
