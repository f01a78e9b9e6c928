-- The fitting and the removal of an entry, out of the spans that were read.
use Rattle.std.proofs.Common.{◌≡◌, ℕ, zero, suc, List, [], ◌∷◌, map, filter, nat_eq, take, Bool, true, false, cond, Option, None, Some, inl, inr, refl, sym, ap, subst, ◌∙◌, arith}
use Rattle.std.specs.Prelude.{slice_get}
use Rattle.std.specs.List.{filter_map, cons_option}
use Rattle.std.specs.List.Sorted.{IsPermutation}
use Rattle.std.specs.Option.{option_eq, option_map, option_map_or}
use Rattle.std.proofs.lemmas.List.Sorted.{length_permutation, Contains-permutation}
use Rattle.sqlite_rules.specs.Lists.{Has}
use Rattle.sqlite_rules.proofs.ListLemmas.{has_contained}
use Rattle.sqlite_keyed.proofs.ListLemmas.{filter-map, IsPermutation-filter}
use Rattle.mx_book.specs.commands.Act.{Entry, removal_of}
use Rattle.mx_book.specs.Book.{IsBook}
use Rattle.mx_registers.specs.Registers.{if_any, next, removal_rows}
use Rattle.mx_base.specs.declared.rows.rows.FittingRow.{FittingRow}
use Rattle.mx_base.specs.declared.rows.rows.RemovalRow.{RemovalRow}
use Rattle.mx_base.specs.declared.rows.rows.SpanRow.{SpanRow}
use Rattle.mx_registers.specs.kept.Spans.{fitting_in, removal_by, removal_in, span_rows}
use Rattle.mx_registers.proofs.KeptProofs.SpanRegisters.{fittings_in_spans, removals_in_spans}
use Rattle.mx_row_rules.specs.found.Given.{fittings, found, removals}
use Rattle.mx_row_rules.specs.found.Spans.{is_removed_by}
use Rattle.mx_row_rules.proofs.FoundProofs.EntryLemmas.{rows_at}
use Rattle.mx_row_rules.proofs.FoundProofs.RowLemmas.{removals_law}
use Rattle.mx_lookups.proofs.NumbersProofs.AnyLemmas.{empty_is}

-- the first of things that are seen otherwise
pub first_map : {X Y : Type 0} (f : X → Y) (xs : List X) → slice_get (map f xs) 0 ≡ option_map f (slice_get xs 0)
first_map f [] = refl
first_map f (x ∷ xs) = refl

-- ── fittings ──

pub fittings_found : (book : List Entry) (n : ℕ) → map fitting_in (filter (λ (row : SpanRow). nat_eq row.fit_seq n) (span_rows book)) ≡ found fittings book n
fittings_found book n = sym (filter-map (λ (row : FittingRow). nat_eq row.seq n) fitting_in (span_rows book)) ∙ ap (filter (λ (row : FittingRow). nat_eq row.seq n)) (sym (fittings_in_spans book))

-- ── removals ──

-- a removal has the number that the span has for it
removed_one : (n component : ℕ) (to seq : Option ℕ) (rest : List RemovalRow) → filter (λ (row : RemovalRow). nat_eq row.seq n) (cons_option (removal_by component to seq) rest)
    ≡ cond (option_eq nat_eq seq (Some n)) (cons_option (removal_by component to seq) (filter (λ (row : RemovalRow). nat_eq row.seq n) rest)) (filter (λ (row : RemovalRow). nat_eq row.seq n) rest)
removed_one n component None None rest = refl
removed_one n component None (Some m) rest = elim (nat_eq m n) as (λ b. filter (λ (row : RemovalRow). nat_eq row.seq n) rest ≡ cond b (filter (λ (row : RemovalRow). nat_eq row.seq n) rest) (filter (λ (row : RemovalRow). nat_eq row.seq n) rest)) [ true ↦ refl | false ↦ refl ]
removed_one n component (Some moment) None rest = refl
removed_one n component (Some moment) (Some m) rest = refl

passed_on : (b : Bool) (f : SpanRow → Option RemovalRow) (row : SpanRow) (rows : List SpanRow) → cond b (cons_option (f row) (filter_map f rows)) (filter_map f rows) ≡ filter_map f (cond b (row ∷ rows) rows)
passed_on true f row rows = refl
passed_on false f row rows = refl

numbered_removals : (n : ℕ) (rows : List SpanRow) → filter (λ (row : RemovalRow). nat_eq row.seq n) (filter_map removal_in rows) ≡ filter_map removal_in (filter (is_removed_by n) rows)
numbered_removals n [] = refl
numbered_removals n (row ∷ rows) =
    removed_one n row.component row.to row.remove_seq (filter_map removal_in rows)
    ∙ ap (λ rest. cond (is_removed_by n row) (cons_option (removal_in row) rest) rest) (numbered_removals n rows) ∙ passed_on (is_removed_by n row) removal_in row (filter (is_removed_by n) rows)

every : {X : Type 0} (xs : List X) → filter (λ _. true) xs ≡ xs
every [] = refl
every (x ∷ xs) = ap (λ l. x ∷ l) (every xs)

moved : (book : List Entry) → IsBook book → IsPermutation (removal_rows book) (filter_map removal_in (span_rows book))
moved book b =
    subst (λ l. IsPermutation (removal_rows book) (filter_map removal_in l)) (every (span_rows book)) (subst (λ l. IsPermutation l (filter_map removal_in (filter (λ _. true) (span_rows book)))) (every (removal_rows book)) (removals_in_spans (λ _. true) book b))

-- where there is one thing or none, it is the first in whatever order
same_first : {X : Type 0} (o : Option X) (xs : List X) → IsPermutation (if_any (λ x. x) o) xs → slice_get xs 0 ≡ o
same_first None xs is = ap (λ l. slice_get l 0) (empty_is xs (length_permutation [] xs is))
same_first (Some x) [] is = let none = length_permutation (x ∷ []) [] is in absurd cc
same_first (Some x) (y ∷ ys) is =
    let one = length_permutation (x ∷ []) (y ∷ ys) is in
    let none : ys ≡ [] = empty_is ys (omega arith) in
    let here = has_contained (y ∷ ys) x (Contains-permutation (x ∷ []) (y ∷ ys) x is (0, omega arith, refl)) in
    elim (subst (λ l. Has (y ∷ l) x) none here) [ inl same ↦ cc | inr none_left ↦ absurd none_left ]

as_one : {X Row : Type 0} (row : X → Row) (o : Option X) → if_any row o ≡ if_any (λ r. r) (option_map row o)
as_one row None = refl
as_one row (Some x) = refl

first_any : {X : Type 0} (o : Option X) → slice_get (if_any (λ x. x) o) 0 ≡ o
first_any None = refl
first_any (Some x) = refl

-- the removals of an entry: one or none
removal_given : (before : List Entry) (o : Option Entry) → (one : Option RemovalRow) × (option_map_or (λ (e : Entry). removals.given (next before) before e.act) o [] ≡ if_any (λ r. r) one)
removal_given before None = (None, refl)
removal_given before (Some e) = (_, as_one _ (removal_of e.act))

one_or_none : (book : List Entry) (n : ℕ) → (one : Option RemovalRow) × (found removals book n ≡ if_any (λ r. r) one)
one_or_none book zero = (None, rows_at removals removals_law book 0)
one_or_none book (suc k) = let given = removal_given (take k book) (slice_get book k) in (given.0, rows_at removals removals_law book (suc k) ∙ given.1)

pub removal_found : (book : List Entry) → IsBook book → (n : ℕ) → slice_get (filter_map removal_in (filter (is_removed_by n) (span_rows book))) 0 ≡ slice_get (found removals book n) 0
removal_found book b n =
    let one = one_or_none book n in
    let ended = filter_map removal_in (filter (is_removed_by n) (span_rows book)) in
    let all : IsPermutation (found removals book n) ended =
    subst (IsPermutation (found removals book n)) (numbered_removals n (span_rows book)) (IsPermutation-filter (λ (row : RemovalRow). nat_eq row.seq n) (removal_rows book) (filter_map removal_in (span_rows book)) (moved book b)) in
    same_first one.0 ended (subst (λ l. IsPermutation l ended) one.1 all) ∙ sym (ap (λ l. slice_get l 0) one.1 ∙ first_any one.0)
