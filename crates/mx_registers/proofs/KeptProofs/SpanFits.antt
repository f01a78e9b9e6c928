-- The fittings and removals fit their columns where the rows of the spans do.
use Rattle.std.proofs.Common.{refl, sym, subst, ap, ◌≡◌, ℕ, ◌^◌, ◌≤◌, ◌<◌, List, [], ◌∷◌, true, Option, Some, None}
use Rattle.std.specs.Prelude.{All, IfSome, IsPermutation, filter, map}
use Rattle.std.specs.List.{filter_map, cons_option, AllByRecursion}
use Rattle.std.proofs.lemmas.List.Elements.{All-from_recursion, recursion_from_All}
use Rattle.std.proofs.lemmas.List.Sorted.{All-permutation, IsPermutation-sym}
use Rattle.mx_base.specs.Calendar.{last_moment}
use Rattle.mx_book.specs.commands.Act.{Entry}
use Rattle.mx_book.specs.Book.{IsBook}
use Rattle.mx_base.specs.rows.Rows.{FitsFitting, FitsRemoval, FitsSpan}
use Rattle.mx_base.specs.declared.rows.rows.RemovalRow.{RemovalRow}
use Rattle.mx_base.specs.declared.rows.rows.SpanRow.{SpanRow}
use Rattle.mx_registers.specs.Registers.{fitting_rows, removal_rows}
use Rattle.mx_registers.specs.kept.Spans.{fitting_in, removal_by, removal_in, span_rows}
use Rattle.mx_registers.proofs.KeptProofs.SpanRegisters.{fittings_in_spans, removals_in_spans}

fittings_of : (rows : List SpanRow) → AllByRecursion FitsSpan rows → AllByRecursion FitsFitting (map fitting_in rows)
fittings_of [] h = tt
fittings_of (row ∷ rows) h =
    let fits = h.0 in
    (record { seq = fits.fit_seq; component = fits.component; aircraft = fits.aircraft; position = fits.position; moment = fits.from }, fittings_of rows h.1)

pub fittings_fit : (book : List Entry) → All FitsSpan (span_rows book) → All FitsFitting (fitting_rows book)
fittings_fit book h =
    subst (All FitsFitting) (sym (fittings_in_spans book)) (All-from_recursion FitsFitting (map fitting_in (span_rows book)) (fittings_of (span_rows book) (recursion_from_All FitsSpan (span_rows book) h)))

removal_fits : (component : ℕ) (to seq : Option ℕ) (rest : List RemovalRow) → component < 2 ^ 32 → IfSome to (λ moment. moment ≤ last_moment) → IfSome seq (λ n. n < 2 ^ 32)
    → AllByRecursion FitsRemoval rest → AllByRecursion FitsRemoval (cons_option (removal_by component to seq) rest)
removal_fits component None seq rest low by number h = h
removal_fits component (Some moment) None rest low by number h = h
removal_fits component (Some moment) (Some seq) rest low by number h = (record { seq = number; component = low; moment = by }, h)

removals_of : (rows : List SpanRow) → AllByRecursion FitsSpan rows → AllByRecursion FitsRemoval (filter_map removal_in rows)
removals_of [] h = tt
removals_of (row ∷ rows) h = removal_fits row.component row.to row.remove_seq (filter_map removal_in rows) h.0.component h.0.to h.0.remove_seq (removals_of rows h.1)

all_there : {X : Type 0} (xs : List X) → filter (λ x. true) xs ≡ xs
all_there [] = refl
all_there (x ∷ xs) = ap (λ l. x ∷ l) (all_there xs)

pub removals_fit : (book : List Entry) → IsBook book → All FitsSpan (span_rows book) → All FitsRemoval (removal_rows book)
removals_fit book b h =
    let there : IsPermutation (filter (λ (row : RemovalRow). true) (removal_rows book)) (filter_map removal_in (filter (λ (row : SpanRow). true) (span_rows book))) = removals_in_spans (λ n. true) book b in
    let same : IsPermutation (removal_rows book) (filter_map removal_in (span_rows book)) =
    subst (λ l. IsPermutation l (filter_map removal_in (span_rows book))) (all_there (removal_rows book))
    (subst (λ l. IsPermutation (filter (λ (row : RemovalRow). true) (removal_rows book)) (filter_map removal_in l)) (all_there (span_rows book)) there) in
    All-permutation FitsRemoval (filter_map removal_in (span_rows book)) (removal_rows book) (IsPermutation-sym (removal_rows book) (filter_map removal_in (span_rows book)) same)
    (All-from_recursion FitsRemoval (filter_map removal_in (span_rows book)) (removals_of (span_rows book) (recursion_from_All FitsSpan (span_rows book) h)))
