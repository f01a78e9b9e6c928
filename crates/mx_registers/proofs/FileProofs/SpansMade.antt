-- The spans of a book are those that its fittings and removals make.
use Rattle.std.proofs.Common.{◌≡◌, ℕ, ◌+◌, ◌≤◌, ◌<◌, Bool, true, false, cond, ◌&&◌, List, [], ◌∷◌, ◌++◌, map, Option, Some, None, refl, sym, ap, subst, ◌∙◌, arith, append-nil, nat_eq}
use Rattle.std.specs.Prelude.{find, is_none, nat_lt}
use Rattle.std.specs.List.{AllByRecursion}
use Rattle.std.specs.Option.{option_or}
use Rattle.std.proofs.lemmas.List.Folds.{find-append}
use Rattle.std.proofs.lemmas.Bool.Decides.{nat_tests}
use Rattle.mx_book.specs.commands.Act.{Act, Entry, Added, Listed, Loaded, Opened, Flown, Fitted, Removed, Released, Deferred, Extended}
use Rattle.mx_book.specs.commands.Shape.{has_shape}
use Rattle.mx_book.specs.declared.commands.fitting.Removal.{Removal}
use Rattle.mx_book.specs.Book.{IsBook}
use Rattle.mx_book.specs.Judge.{judge}
use Rattle.mx_book.specs.declared.verdict.Verdict.TheVariants.{New}
use Rattle.mx_base.specs.rows.Rising.{IsRising}
use Rattle.mx_base.specs.declared.rows.rows.FittingRow.{FittingRow}
use Rattle.mx_base.specs.declared.rows.rows.RemovalRow.{RemovalRow}
use Rattle.mx_base.specs.declared.rows.rows.SpanRow.{SpanRow}
use Rattle.mx_registers.specs.Registers.{fitting_row, fitting_rows, fittings_by, next, removal_row, removal_rows, removals_by}
use Rattle.mx_registers.proofs.RegisterLemmas.{fitting_rows-rising, gives-more, removal_rows-rising}
use Rattle.mx_registers.specs.kept.Items.{number_of_serial, number_of_tail}
use Rattle.mx_registers.specs.kept.Spans.{span_ended, span_rows, spans_opened}
use Rattle.mx_registers.proofs.KeptProofs.Induction.{of_each_book}
use Rattle.mx_registers.proofs.KeptProofs.SpanRows.{span_rows-more}
use Rattle.mx_registers.specs.file.Spans.{is_behind, is_of, span_by, span_made, spans_made}

-- ── rows below a number ──

module _ {Row : Type 0} (key : Row → ℕ) where
  rises_up : (low high : ℕ) (rows : List Row) → IsRising key low rows high → low ≤ high
  rises_up low high [] up = up
  rises_up low high (row ∷ rows) up = omega (arith, up.0, rises_up (key row + 1) high rows up.1)

  -- the keys of a rising list are below its bound
  pub all_below : (low high : ℕ) (rows : List Row) → IsRising key low rows high → AllByRecursion (λ row. key row < high) rows
  all_below low high [] up = tt
  all_below low high (row ∷ rows) up = (omega (arith, rises_up (key row + 1) high rows up.1), all_below (key row + 1) high rows up.1)

not_behind : (n m : ℕ) (b : Bool) → m ≤ n → b && nat_lt n m ≡ false
not_behind n m true h = grind (arith, nat_tests)
not_behind n m false h = refl

-- no removal before a fitting ends its span
pub none_before : (fitting : FittingRow) (n : ℕ) (removals : List RemovalRow) → n ≤ fitting.seq + 1 → AllByRecursion (λ (row : RemovalRow). row.seq < n) removals → find (is_behind fitting) removals ≡ None
none_before fitting n [] h below = refl
none_before fitting n (r ∷ removals) h below = at (is_behind fitting r) (not_behind fitting.seq r.seq (is_of fitting.component r) (omega (arith, h, below.0))) (none_before fitting n removals h below.1)
  where
    at : (b : Bool) → b ≡ false → find (is_behind fitting) removals ≡ None → cond b (Some r) (find (is_behind fitting) removals) ≡ None
    at true e rest = (cc)
    at false e rest = rest

-- ── one entry more ──

map_same : {X : Type 0} (f : X → X) → ((x : X) → f x ≡ x) → (xs : List X) → map f xs ≡ xs
map_same f same [] = refl
map_same f same (x ∷ xs) = ap (λ y. y ∷ map f xs) (same x) ∙ ap (λ ys. x ∷ ys) (map_same f same xs)

map_both : {X Y : Type 0} (f g : X → Y) (P : X → Type 0) → ((x : X) → P x → f x ≡ g x) → (xs : List X) → AllByRecursion P xs → map f xs ≡ map g xs
map_both f g P same [] all = refl
map_both f g P same (x ∷ xs) all = ap (λ y. y ∷ map f xs) (same x all.0) ∙ ap (λ ys. g x ∷ ys) (map_both f g P same xs all.1)

map_map : {X Y Z : Type 0} (f : Y → Z) (g : X → Y) (xs : List X) → map f (map g xs) ≡ map (λ x. f (g x)) xs
map_map f g [] = refl
map_map f g (x ∷ xs) = ap (λ ys. f (g x) ∷ ys) (map_map f g xs)

map_joined : {X Y : Type 0} (f : X → Y) (xs ys : List X) → map f (xs ++ ys) ≡ map f xs ++ map f ys
map_joined f [] ys = refl
map_joined f (x ∷ xs) ys = ap (λ zs. f x ∷ zs) (map_joined f xs ys)

is_below : (n m : ℕ) → n < m → nat_lt n m ≡ true
is_below n m h = grind (arith, nat_tests)

-- a removal ends the span of each fitting of its component that had no removal behind it
ended : (book : List Entry) (removals : List RemovalRow) (r : Removal) (fitting : FittingRow) → fitting.seq < next book
    → span_ended book (Removed r) (span_made removals fitting) ≡ span_made (removals ++ removal_row (next book) (number_of_serial book r.serial) r ∷ []) fitting
ended book removals r fitting h =
    let x = removal_row (next book) (number_of_serial book r.serial) r in
    at (find (is_behind fitting) removals) (nat_eq fitting.component x.component)
    ∙ sym (ap (λ b. span_by fitting (option_or (find (is_behind fitting) removals) (cond (nat_eq fitting.component x.component && b) (Some x) None))) (is_below fitting.seq (next book) h))
    ∙ sym (ap (span_by fitting) (find-append (is_behind fitting) removals (x ∷ [])))
  where
    at : (o : Option RemovalRow) (b : Bool) → cond (is_none (span_by fitting o).to && b) (record (span_by fitting o) { remove_seq = Some (next book); to = Some r.moment }) (span_by fitting o)
        ≡ span_by fitting (option_or o (cond (b && true) (Some (removal_row (next book) (number_of_serial book r.serial) r)) None))
    at (Some y) b = refl
    at None true = refl
    at None false = refl

abbrev Made : List Entry → Type 0
Made book = span_rows book ≡ spans_made (fitting_rows book) (removal_rows book)

-- an entry that fits and removes nothing leaves them
unmoved : (book : List Entry) (fittings : List FittingRow) (removals : List RemovalRow) (act : Act) → ((span : SpanRow) → span_ended book act span ≡ span)
    → map (span_ended book act) (spans_made fittings removals) ++ [] ≡ spans_made (fittings ++ []) (removals ++ [])
unmoved book fittings removals act same =
    append-nil (map (span_ended book act) (spans_made fittings removals))
    ∙ map_same (span_ended book act) same (spans_made fittings removals)
    ∙ ap (λ fs. spans_made fs removals) (sym (append-nil fittings))
    ∙ ap (spans_made (fittings ++ [])) (sym (append-nil removals))

-- what fittings and removals make with those of one entry more
one_more : (book : List Entry) (fittings : List FittingRow) (removals : List RemovalRow) (act : Act) → AllByRecursion (λ (row : FittingRow). row.seq < next book) fittings → AllByRecursion (λ (row : RemovalRow). row.seq < next book) removals
    → map (span_ended book act) (spans_made fittings removals) ++ spans_opened book act ≡ spans_made (fittings ++ fittings_by book act) (removals ++ removals_by book act)
one_more book fittings removals (Fitted f) below late =
    let fitting = fitting_row (next book) (number_of_serial book f.serial) (number_of_tail book f.tail) f in
    ap (λ spans. spans ++ spans_opened book (Fitted f)) (map_same (span_ended book (Fitted f)) (λ span. refl) (spans_made fittings removals))
    ∙ ap (λ o. spans_made fittings removals ++ span_by fitting o ∷ []) (sym (none_before fitting (next book) removals (omega arith) late))
    ∙ sym (map_joined (span_made removals) fittings (fitting ∷ []))
    ∙ ap (spans_made (fittings ++ fitting ∷ [])) (sym (append-nil removals))
one_more book fittings removals (Removed r) below late =
    let x = removal_row (next book) (number_of_serial book r.serial) r in
    append-nil (map (span_ended book (Removed r)) (spans_made fittings removals))
    ∙ map_map (span_ended book (Removed r)) (span_made removals) fittings
    ∙ map_both (λ f. span_ended book (Removed r) (span_made removals f)) (span_made (removals ++ x ∷ [])) (λ (row : FittingRow). row.seq < next book) (ended book removals r) fittings below
    ∙ ap (λ fs. spans_made fs (removals ++ x ∷ [])) (sym (append-nil fittings))
one_more book fittings removals (Added a positions) below late = unmoved book fittings removals (Added a positions) (λ span. refl)
one_more book fittings removals (Listed c) below late = unmoved book fittings removals (Listed c) (λ span. refl)
one_more book fittings removals (Loaded p tasks) below late = unmoved book fittings removals (Loaded p tasks) (λ span. refl)
one_more book fittings removals (Opened o) below late = unmoved book fittings removals (Opened o) (λ span. refl)
one_more book fittings removals (Flown s) below late = unmoved book fittings removals (Flown s) (λ span. refl)
one_more book fittings removals (Released r lines) below late = unmoved book fittings removals (Released r lines) (λ span. refl)
one_more book fittings removals (Deferred d) below late = unmoved book fittings removals (Deferred d) (λ span. refl)
one_more book fittings removals (Extended x) below late = unmoved book fittings removals (Extended x) (λ span. refl)

made_more : (book : List Entry) (e : Entry) → IsBook book → has_shape e ≡ true → judge book e ≡ New → Made book → Made (book ++ e ∷ [])
made_more book e b shape new made =
    span_rows-more book e b new
    ∙ ap (λ rows. map (span_ended book e.act) rows ++ spans_opened book e.act) made
    ∙ one_more book (fitting_rows book) (removal_rows book) e.act
    (all_below (λ (row : FittingRow). row.seq) 1 (next book) (fitting_rows book) (fitting_rows-rising book b.shaped))
    (all_below (λ (row : RemovalRow). row.seq) 1 (next book) (removal_rows book) (removal_rows-rising book b.shaped))
    ∙ ap (λ fs. spans_made fs (removal_rows book ++ removals_by book e.act)) (sym (gives-more (λ earlier entry. fittings_by earlier entry.act) [] book e))
    ∙ ap (spans_made (fitting_rows (book ++ e ∷ []))) (sym (gives-more (λ earlier entry. removals_by earlier entry.act) [] book e))

-- the spans of a book are those that its fittings and removals make
pub span_rows_made : (book : List Entry) → IsBook book → span_rows book ≡ spans_made (fitting_rows book) (removal_rows book)
span_rows_made book b = of_each_book Made made_more refl book b

from_zero : {Row : Type 0} (key : Row → ℕ) (high : ℕ) (rows : List Row) → IsRising key 1 rows high → IsRising key 0 rows high
from_zero key high [] up = omega arith
from_zero key high (row ∷ rows) up = (omega arith, up.1)

-- what was made of fittings and removals that are those of a book are its spans
pub made_right : (book : List Entry) (fittings : List FittingRow) (removals : List RemovalRow) (made : List SpanRow) → IsBook book → fittings ≡ fitting_rows book → removals ≡ removal_rows book
    → ((high : ℕ) → IsRising (λ (row : FittingRow). row.seq) 0 fittings high → IsRising (λ (row : RemovalRow). row.seq) 0 removals high → made ≡ spans_made fittings removals) → made ≡ span_rows book
made_right book fittings removals made is f r given =
    given (next book)
    (subst (λ (rows : List FittingRow). IsRising (λ (row : FittingRow). row.seq) 0 rows (next book)) (sym f) (from_zero (λ (row : FittingRow). row.seq) (next book) (fitting_rows book) (fitting_rows-rising book is.shaped)))
    (subst (λ (rows : List RemovalRow). IsRising (λ (row : RemovalRow). row.seq) 0 rows (next book)) (sym r) (from_zero (λ (row : RemovalRow). row.seq) (next book) (removal_rows book) (removal_rows-rising book is.shaped)))
    ∙ ap (λ rows. spans_made rows removals) f
    ∙ ap (spans_made (fitting_rows book)) r
    ∙ sym (span_rows_made book is)
