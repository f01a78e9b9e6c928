-- A commit that moves the rows of one thing.
use Rattle.std.proofs.Common.{arith, refl, sym, subst, ap, ◌∙◌, ◌≡◌, ◌⊎◌, inl, inr, ℕ, ◌+◌, ◌≤◌, ◌<◌, length, List, [], ◌∷◌, ◌++◌, Bool, true, false, cond, nat_le, nat_eq, ◌&&◌, take}
use Rattle.std.specs.Prelude.{not, filter, IsPermutation}
use Rattle.std.specs.List.{AllByRecursion}
use Rattle.std.proofs.lemmas.Bool.Decides.{nat_tests}
use Rattle.std.proofs.lemmas.List.Elements.{filter_agree}
use Rattle.std.proofs.lemmas.List.Sorted.{IsPermutation-filter_both}
use Rattle.mx_book.specs.commands.Act.{Entry}
use Rattle.mx_base.specs.declared.rows.rows.FittingRow.{FittingRow}
use Rattle.mx_base.specs.declared.rows.rows.RemovalRow.{RemovalRow}
use Rattle.mx_registers.specs.Registers.{next, fitting_rows, removal_rows}
use Rattle.mx_base.specs.declared.rows.rows.TotalRow.{TotalRow}
use Rattle.mx_registers.specs.kept.Bases.{base_rows}
use Rattle.mx_registers.specs.kept.Spans.{span_rows}
use Rattle.mx_registers.specs.kept.Totals.{total_rows}
use Rattle.mx_registers.specs.late.Done.{done_rows}
use Rattle.mx_registers.specs.points.Moves.{BringsFrom, IsNext, TakesFrom, last_moved}
use Rattle.mx_registers.specs.points.Tables.{bases_2, done_3, fittings_1, removals_1, rows_at, spans_2, totals_2}
use Rattle.mx_base.specs.declared.rows.rows.SpanRow.{SpanRow}
use Rattle.mx_base.specs.declared.rows.rows.BaseRow.{BaseRow}
use Rattle.mx_base.specs.declared.rows.rows.DoneRow.{DoneRow}
use Rattle.mx_registers.proofs.PointsProofs.PointLemmas.{moved_more}
use Rattle.mx_registers.proofs.KeptProofs.ItemOrder.{total_rows-rising}
use Rattle.mx_registers.specs.points.Points.{moving}

module _ {Row : Type 0} (number : Row → ℕ) (mark thing : ℕ) where
  -- no row has a number between the mark and the thing
  abbrev pub IsApart : Row → Type 0
  IsApart row = (number row ≤ mark) ⊎ (thing ≤ number row)

  abbrev is_below : ℕ → Row → Bool
  is_below bound row = nat_le (number row) bound

  abbrev is_of : Row → Bool
  is_of row = nat_eq (number row) thing

  below_both : (n : ℕ) → mark < thing → nat_le n thing && nat_le n mark ≡ nat_le n mark
  below_both n h = grind (arith, nat_tests)

  of_thing : (n : ℕ) → mark < thing → (n ≤ mark) ⊎ (thing ≤ n) → nat_le n thing && not (nat_le n mark) ≡ nat_eq n thing
  of_thing n h (inl k) = grind (arith, nat_tests)
  of_thing n h (inr k) = grind (arith, nat_tests)

  above_thing : (n : ℕ) → mark < thing → (n ≤ mark) ⊎ (thing ≤ n) → not (nat_le n thing) ≡ not (nat_le n mark) && not (nat_eq n thing)
  above_thing n h (inl k) = grind (arith, nat_tests)
  above_thing n h (inr k) = grind (arith, nat_tests)

  filter_twice : (p q : Row → Bool) (xs : List Row) → filter p (filter q xs) ≡ filter (λ x. q x && p x) xs
  filter_twice p q [] = refl
  filter_twice p q (x ∷ xs) = at (q x) (filter_twice p q xs)
    where
      at : (b : Bool) → filter p (filter q xs) ≡ filter (λ x. q x && p x) xs → filter p (cond b (x ∷ filter q xs) (filter q xs)) ≡ cond (b && p x) (x ∷ filter (λ x. q x && p x) xs) (filter (λ x. q x && p x) xs)
      at true h = ap (λ l. cond (p x) (x ∷ l) l) h
      at false h = h

  filter_on : (p q : Row → Bool) (xs : List Row) → AllByRecursion (λ x. p x ≡ q x) xs → filter p xs ≡ filter q xs
  filter_on p q [] h = refl
  filter_on p q (x ∷ xs) h = ap (λ b. cond b (x ∷ filter p xs) (filter p xs)) h.0 ∙ ap (λ l. cond (q x) (x ∷ l) l) (filter_on p q xs h.1)

  each : (P Q : Row → Type 0) → ((x : Row) → P x → Q x) → (xs : List Row) → AllByRecursion P xs → AllByRecursion Q xs
  each P Q f [] h = tt
  each P Q f (x ∷ xs) h = (f x h.0, each P Q f xs h.1)

  -- the rows up to the thing are those up to the mark and those of the thing
  pub thing_brought : (xs : List Row) → mark < thing → AllByRecursion IsApart xs → IsPermutation (filter (is_below thing) xs) (filter (is_below mark) xs ++ filter is_of xs)
  thing_brought xs h apart =
      let one : filter (is_below mark) (filter (is_below thing) xs) ≡ filter (is_below mark) xs = filter_twice (is_below mark) (is_below thing) xs ∙ filter_agree (λ x. is_below thing x && is_below mark x) (is_below mark) (λ x. below_both (number x) h) xs in
      let two : filter (λ x. not (is_below mark x)) (filter (is_below thing) xs) ≡ filter is_of xs =
      filter_twice (λ x. not (is_below mark x)) (is_below thing) xs
      ∙ filter_on (λ x. is_below thing x && not (is_below mark x)) is_of xs (each IsApart (λ x. is_below thing x && not (is_below mark x) ≡ is_of x) (λ x k. of_thing (number x) h k) xs apart) in
      subst (λ l. IsPermutation (filter (is_below thing) xs) (l ++ filter is_of xs)) one
      (subst (λ l. IsPermutation (filter (is_below thing) xs) (filter (is_below mark) (filter (is_below thing) xs) ++ l)) two (IsPermutation-filter_both (is_below mark) (λ x. not (is_below mark x)) (λ x. refl) (filter (is_below thing) xs)))

  -- the rows above the thing are those above the mark but those of the thing
  pub thing_taken : (xs : List Row) → mark < thing → AllByRecursion IsApart xs → filter (λ x. not (is_below thing x)) xs ≡ filter (λ x. not (is_of x)) (filter (λ x. not (is_below mark x)) xs)
  thing_taken xs h apart =
      filter_on (λ x. not (is_below thing x)) (λ x. not (is_below mark x) && not (is_of x)) xs (each IsApart (λ x. not (is_below thing x) ≡ not (is_below mark x) && not (is_of x)) (λ x k. above_thing (number x) h k) xs apart)
      ∙ sym (filter_twice (λ x. not (is_of x)) (λ x. not (is_below mark x)) xs)

-- ── the totals, one at a time ──

and_true : (b : Bool) → b && true ≡ b
and_true true = refl
and_true false = refl

totals_there : (mark : ℕ) (book : List Entry) → rows_at totals_2 (moving 3 mark) book ≡ filter (λ (row : TotalRow). nat_le row.item mark) (total_rows book)
totals_there mark book = filter_agree _ (λ (row : TotalRow). nat_le row.item mark) (λ row. and_true (nat_le row.item mark)) (total_rows book)

-- a commit of the step of the totals: the table has what it had, and the row of the next item
pub totals_moved : (book : List Entry) (mark : ℕ)
    → rows_at totals_2 (moving 3 (last_moved (λ (row : TotalRow). row.item) mark (take 1 (filter (λ (row : TotalRow). not (nat_le row.item mark)) (total_rows book))))) book
    ≡ rows_at totals_2 (moving 3 mark) book ++ take 1 (filter (λ (row : TotalRow). not (nat_le row.item mark)) (total_rows book))
totals_moved book mark =
    let key = λ (row : TotalRow). row.item in
    let batch = take 1 (filter (λ (row : TotalRow). not (nat_le row.item mark)) (total_rows book)) in
    totals_there (last_moved key mark batch) book ∙ moved_more key mark 1 (next [] + length book) 1 (total_rows book) (total_rows-rising book) ∙ ap (λ l. l ++ batch) (sym (totals_there mark book))

-- ── what is moved or written of one thing ──

brought_there : {Row : Type 0} (rows : List Row) (number : Row → ℕ) (mark : ℕ) → filter (λ row. nat_le (number row) mark && true) rows ≡ filter (λ row. nat_le (number row) mark) rows
brought_there rows number mark = filter_agree (λ row. nat_le (number row) mark && true) (λ row. nat_le (number row) mark) (λ row. and_true (nat_le (number row) mark)) rows

thing_there : {Row : Type 0} (rows : List Row) (number : Row → ℕ) (mark thing : ℕ) → (mark < thing) × AllByRecursion (λ row. (number row ≤ mark) ⊎ (thing ≤ number row)) rows
    → IsPermutation (filter (λ row. nat_le (number row) thing && true) rows) (filter (λ row. nat_le (number row) mark && true) rows ++ filter (λ row. nat_eq (number row) thing) rows)
thing_there rows number mark thing h =
    subst (λ l. IsPermutation l (filter (λ row. nat_le (number row) mark && true) rows ++ filter (λ row. nat_eq (number row) thing) rows)) (sym (brought_there rows number thing))
    (subst (λ l. IsPermutation (filter (λ row. nat_le (number row) thing) rows) (l ++ filter (λ row. nat_eq (number row) thing) rows)) (sym (brought_there rows number mark)) (thing_brought number mark thing rows h.0 h.1))

pub spans_moved : (book : List Entry) (mark thing : ℕ) → IsNext (λ (row : SpanRow). row.component) mark thing (span_rows book)
    → IsPermutation (rows_at spans_2 (moving 2 thing) book) (rows_at spans_2 (moving 2 mark) book ++ filter (λ (row : SpanRow). nat_eq row.component thing) (span_rows book))
spans_moved book mark thing h = thing_there (span_rows book) (λ (row : SpanRow). row.component) mark thing h

pub fittings_left : (book : List Entry) (mark thing : ℕ) → IsNext (λ (row : FittingRow). row.component) mark thing (fitting_rows book)
    → rows_at fittings_1 (moving 2 thing) book ≡ filter (λ (row : FittingRow). not (nat_eq row.component thing)) (rows_at fittings_1 (moving 2 mark) book)
fittings_left book mark thing h = thing_taken (λ (row : FittingRow). row.component) mark thing (fitting_rows book) h.0 h.1

pub removals_left : (book : List Entry) (mark thing : ℕ) → IsNext (λ (row : RemovalRow). row.component) mark thing (removal_rows book)
    → rows_at removals_1 (moving 2 thing) book ≡ filter (λ (row : RemovalRow). not (nat_eq row.component thing)) (rows_at removals_1 (moving 2 mark) book)
removals_left book mark thing h = thing_taken (λ (row : RemovalRow). row.component) mark thing (removal_rows book) h.0 h.1

pub bases_written : (book : List Entry) (mark thing : ℕ) → IsNext (λ (row : BaseRow). row.item) mark thing (base_rows book)
    → IsPermutation (rows_at bases_2 (moving 4 thing) book) (rows_at bases_2 (moving 4 mark) book ++ filter (λ (row : BaseRow). nat_eq row.item thing) (base_rows book))
bases_written book mark thing h = thing_there (base_rows book) (λ (row : BaseRow). row.item) mark thing h

-- ── of one item, its accomplishments in place of its last bases ──

pub done_written : (book : List Entry) (mark thing : ℕ) → IsNext (λ (row : DoneRow). row.item) mark thing (done_rows book) → BringsFrom done_3 2 2 mark thing book
done_written book mark thing h = thing_there (done_rows book) (λ (row : DoneRow). row.item) mark thing h

pub bases_left : (book : List Entry) (mark thing : ℕ) → IsNext (λ (row : BaseRow). row.item) mark thing (base_rows book) → TakesFrom bases_2 2 2 mark thing book
bases_left book mark thing h = thing_taken (λ (row : BaseRow). row.item) mark thing (base_rows book) h.0 h.1
