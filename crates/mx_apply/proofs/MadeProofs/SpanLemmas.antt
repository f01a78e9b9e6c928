-- The spans that a command touches, and those that were there throughout a flight, by the rows that were chosen.
use Rattle.std.proofs.Common.{◌≡◌, ◌∙◌, ℕ, pos, Bool, true, false, cond, ◌&&◌, List, Vec, [], ◌∷◌, filter, map, nat_eq, Result, refl, ap, ap₂}
use Rattle.std.specs.Prelude.{is_none}
use Rattle.std.specs.List.{AllByRecursion}
use Rattle.sqlite.specs.declared.types.Value.TheVariants.{Int}
use Rattle.sqlite.specs.State.{State}
use Rattle.mx_book.specs.commands.Act.{Entry}
use Rattle.mx_base.specs.declared.rows.rows.SpanRow.{SpanRow}
use Rattle.mx_registers.specs.kept.Items.{number_of_serial}
use Rattle.mx_registers.specs.kept.Spans.{is_open_of, span_rows}
use Rattle.mx_base.specs.rows.Spans.{has_between}
use Rattle.mx_registers.specs.kept.Totals.{numbers_during}
use Rattle.mx_registers.proofs.KeptProofs.CreditLemmas.{filter_on}
use Rattle.mx_registers.proofs.KeptProofs.SpanRegisters.{and_swap}
use Rattle.mx_layout.specs.declared.fault.TableFault.{TableFault}
use Rattle.mx_layout.specs.kept.Cells.{kept_span2}
use Rattle.mx_table_rows.specs.chosen.Calls.{ReadsBy}
use Rattle.mx_table_rows.specs.chosen.Choices.{has_value}
use Rattle.mx_row_rules.specs.found.Spans.{is_open_of as is_left_of}
use Rattle.mx_row_rules.proofs.FoundProofs.OpenLemmas.{rows_ended}
use Rattle.mx_lookups.specs.numbers.Reads.{Reads}
use Rattle.mx_lookups.proofs.NumbersProofs.LookupLemmas.{number_is, rows_read}
use Rattle.mx_lookups.proofs.NumbersProofs.TableLemmas.{spans}

-- ── open spans ──

open_alike : (n : ℕ) (rows : List SpanRow) → AllByRecursion (λ (row : SpanRow). is_none row.remove_seq ≡ is_none row.to) rows → AllByRecursion (λ (row : SpanRow). is_left_of n row ≡ is_open_of n row) rows
open_alike n [] h = tt
open_alike n (row ∷ rows) h = (ap (λ b. nat_eq row.component n && b) h.0 ∙ and_swap (nat_eq row.component n) (is_none row.to), open_alike n rows h.1)

-- the open spans of a component are those that nothing removed
pub open_spans_are : (book : List Entry) (n : ℕ) → filter (is_left_of n) (span_rows book) ≡ filter (is_open_of n) (span_rows book)
open_spans_are book n = filter_on (is_left_of n) (is_open_of n) (span_rows book) (open_alike n (span_rows book) (rows_ended [] book))

-- those of the component with a serial number, and its number with those of their aircraft
pub spans_removed_are : (book : List Entry) (n : ℕ) (serial : List ℕ) (rows : List SpanRow) → n ≡ number_of_serial book serial → rows ≡ filter (is_left_of n) (span_rows book)
    → (rows ≡ filter (is_open_of (number_of_serial book serial)) (span_rows book))
    × (n ∷ map (λ (row : SpanRow). row.aircraft) rows ≡ number_of_serial book serial ∷ map (λ (row : SpanRow). row.aircraft) (filter (is_open_of (number_of_serial book serial)) (span_rows book)))
spans_removed_are book n serial rows number is =
    let ended = is ∙ open_spans_are book n ∙ ap (λ m. filter (is_open_of m) (span_rows book)) number in
    (ended, ap₂ (λ m l. m ∷ map (λ (row : SpanRow). row.aircraft) l) number ended)

-- ── the spans of an aircraft ──

-- those with its number
pub spans_of_aircraft : {A : Type 0} {old new : State} {result : Result (Vec SpanRow A) TableFault} (n : ℕ) → ReadsBy kept_span2 2 (Int (pos n)) old new result → Reads (λ book rows. rows.items ≡ filter (λ (row : SpanRow). nat_eq row.aircraft n) (span_rows book)) old new result
spans_of_aircraft {old = old} {new = new} {result = result} n = rows_read kept_span2 span_rows spans (has_value 2 (Int (pos n))) (λ row. nat_eq row.aircraft n) (λ row. number_is row.aircraft n) (λ rows. rows.items) old new result

filter_both : {X : Type 0} (p q : X → Bool) (xs : List X) → filter p (filter q xs) ≡ filter (λ x. p x && q x) xs
filter_both p q [] = refl
filter_both p q (x ∷ xs) = at (p x) (q x) refl (filter_both p q xs)
  where
    at : (a b : Bool) → p x ≡ a → filter p (filter q xs) ≡ filter (λ y. p y && q y) xs → filter p (cond b (x ∷ filter q xs) (filter q xs)) ≡ cond (a && b) (x ∷ filter (λ y. p y && q y) xs) (filter (λ y. p y && q y) xs)
    at true true e rest = ap (λ c. cond c (x ∷ filter p (filter q xs)) (filter p (filter q xs))) e ∙ ap (λ l. x ∷ l) rest
    at false true e rest = ap (λ c. cond c (x ∷ filter p (filter q xs)) (filter p (filter q xs))) e ∙ rest
    at true false e rest = rest
    at false false e rest = rest

-- the numbers of the aircraft and of what was fitted to it throughout a flight, by its spans
pub numbers_flown_are : (book : List Entry) (n off on : ℕ) (rows : List SpanRow) → rows ≡ filter (λ (row : SpanRow). nat_eq row.aircraft n) (span_rows book)
    → n ∷ map (λ (row : SpanRow). row.component) (filter (λ (row : SpanRow). has_between off on row.from row.to) rows) ≡ numbers_during n off on (span_rows book)
numbers_flown_are book n off on rows is =
    ap (λ l. n ∷ map (λ (row : SpanRow). row.component) (filter (λ (row : SpanRow). has_between off on row.from row.to) l)) is
    ∙ ap (λ l. n ∷ map (λ (row : SpanRow). row.component) l) (filter_both (λ (row : SpanRow). has_between off on row.from row.to) (λ row. nat_eq row.aircraft n) (span_rows book))
