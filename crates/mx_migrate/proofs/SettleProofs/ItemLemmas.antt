-- The step that is due for the next item, by the kept rows of all items.
use Rattle.std.proofs.Common.{◌≡◌, ◌∙◌, inl, inr, ℕ, ◌<◌, ◌≤◌, ◌+◌, Bool, true, false, cond, not, ◌&&◌, List, [], ◌∷◌, length, filter, take, All, nat_eq, nat_le, nat_lt, Option, None, Some, refl, sym, ap, ap₂, subst, arith}
use Rattle.std.specs.Prelude.{find}
use Rattle.std.specs.List.{AllByRecursion}
use Rattle.std.specs.List.Sorted.{IsPermutation}
use Rattle.std.proofs.lemmas.Bool.Decides.{nat_tests}
use Rattle.std.proofs.lemmas.List.Elements.{All-weaker, recursion_from_All}
use Rattle.sqlite_keyed.proofs.ListLemmas.{IsPermutation-filter}
use Rattle.sqlite.specs.Tree.{Trees}
use Rattle.mx_book.specs.commands.Act.{Entry}
use Rattle.mx_book.specs.declared.limits.TheConstants.{MOST_ENTRIES}
use Rattle.mx_base.specs.declared.rows.rows.BaseRow.{BaseRow}
use Rattle.mx_base.specs.declared.rows.rows.TotalRow.{TotalRow}
use Rattle.mx_base.proofs.RowsProofs.SortedLemmas.{keys_below}
use Rattle.mx_registers.specs.Registers.{next}
use Rattle.mx_registers.specs.kept.Bases.{base_rows}
use Rattle.mx_registers.specs.kept.Totals.{total_rows}
use Rattle.mx_registers.proofs.KeptProofs.ItemOrder.{total_rows-rising}
use Rattle.mx_base.specs.declared.point.Point.{Point}
use Rattle.mx_base.specs.Settled.{settled}
use Rattle.mx_registers.specs.points.Moves.{totals_next}
use Rattle.mx_registers.specs.points.Points.{is_on_way, moving}
use Rattle.mx_registers.proofs.PointsProofs.StepLemmas.{step_on_way}
use Rattle.mx_book_tables.specs.stands.Schemas.{IsOfFile}
use Rattle.mx_moves.specs.steps.Written.{bases_of}
use Rattle.mx_moves.proofs.StepsProofs.WrittenLemmas.{next_item, no_item}
use Rattle.mx_verify.specs.declared.derived.kept.KeptRows.{KeptRows}
use Rattle.mx_migrate.specs.declared.settle.due.Due.{Due}
use Rattle.mx_migrate.specs.settle.Choices.{GoesOn}
use Rattle.mx_migrate.specs.settle.Due.{IsCalledFor, IsDueAt, IsFor}
use Rattle.mx_migrate.specs.settle.Found.{AreKeptIn}
use Rattle.mx_migrate.specs.settle.Items.{AreItemsOf, IsBasesBy, is_next, next_total, total_by}
use Rattle.mx_migrate.specs.settle.Place.{IsBehind}

-- ── the first that passes ──

module _ {X : Type 0} (p : X → Bool) where
  first_found : (xs : List X) (x : X) → find p xs ≡ Some x → take 1 (filter p xs) ≡ x ∷ []
  first_found [] x e = absurd cc
  first_found (y ∷ ys) x e = by (p y) e (first_found ys x)
    where
      by : (b : Bool) → cond b (Some y) (find p ys) ≡ Some x → (find p ys ≡ Some x → take 1 (filter p ys) ≡ x ∷ []) → take 1 (cond b (y ∷ filter p ys) (filter p ys)) ≡ x ∷ []
      by true e rest = let same : y ≡ x = cc in ap (λ z. z ∷ []) same
      by false e rest = rest e

  none_found : (xs : List X) → find p xs ≡ None → filter p xs ≡ []
  none_found [] e = refl
  none_found (y ∷ ys) e = by (p y) e (none_found ys)
    where
      by : (b : Bool) → cond b (Some y) (find p ys) ≡ None → (find p ys ≡ None → filter p ys ≡ []) → cond b (y ∷ filter p ys) (filter p ys) ≡ []
      by true e rest = absurd cc
      by false e rest = rest e

  found_passes : (xs : List X) (x : X) → find p xs ≡ Some x → p x ≡ true
  found_passes [] x e = absurd cc
  found_passes (y ∷ ys) x e = by (p y) refl e (found_passes ys x)
    where
      by : (b : Bool) → p y ≡ b → cond b (Some y) (find p ys) ≡ Some x → (find p ys ≡ Some x → p x ≡ true) → p x ≡ true
      by true passes e rest = let same : y ≡ x = cc in subst (λ z. p z ≡ true) same passes
      by false passes e rest = rest e

-- tests that agree on each element choose the same
chosen_same : {X : Type 0} (P : X → Type 0) (p q : X → Bool) → ((x : X) → P x → p x ≡ q x) → (xs : List X) → AllByRecursion P xs → filter p xs ≡ filter q xs
chosen_same P p q same [] all = refl
chosen_same P p q same (x ∷ xs) all = ap₂ (λ b rest. cond b (x ∷ rest) rest) (same x all.0) (chosen_same P p q same xs all.1)

-- ── numbers ──

-- a number that is next is behind the mark, and one that an entry can have
pub between : (mark n : ℕ) → is_next mark n ≡ true → (mark < n) × (n ≤ MOST_ENTRIES)
between mark n e = by (nat_lt mark n) (nat_le n MOST_ENTRIES) refl refl e
  where
    by : (low high : Bool) → nat_lt mark n ≡ low → nat_le n MOST_ENTRIES ≡ high → low && high ≡ true → (mark < n) × (n ≤ MOST_ENTRIES)
    by true true low high e = (grind (arith, nat_tests), grind (arith, nat_tests))
    by true false low high e = absurd cc
    by false high low' high' e = absurd cc

-- of numbers that an entry can have, those that are behind the mark are next
behind_next : (mark n : ℕ) → n ≤ MOST_ENTRIES → not (nat_le n mark) ≡ is_next mark n
behind_next mark n few = by (nat_le n MOST_ENTRIES) refl
  where
    by : (b : Bool) → nat_le n MOST_ENTRIES ≡ b → not (nat_le n mark) ≡ nat_lt mark n && b
    by true e = grind (arith, nat_tests)
    by false e = absurd (let over : MOST_ENTRIES < n = grind (arith, nat_tests) in omega (arith, over, few))

-- ── points ──

-- a point in a step is no other that a file can be at
pub on_the_way : (step mark : ℕ) → IsOfFile (moving step mark) → is_on_way (moving step mark) ≡ true
on_the_way step mark (inl way) = way
on_the_way step mark (inr is) = let one : 1 ≡ 2 = ap (λ (p : Point). p.layout) is in absurd (omega (arith, one))

pub later : (at to next : Point) → IsOfFile next → IsBehind at next → to ≡ next → IsOfFile to × IsBehind at to
later at to next file behind is = (subst IsOfFile (sym is) file, subst (IsBehind at) (sym is) behind)

-- the point of a number that is next is a later one of the step
next_later : (step mark n : ℕ) (to : Point) → 0 < step → step ≤ 4 → is_next mark n ≡ true → to ≡ moving step n → IsOfFile to × IsBehind (moving step mark) to
next_later step mark n to some last next is =
    let far = between mark n next in
    later (moving step mark) to (moving step n) (inl (step_on_way step n some last far.1)) (inr (refl, inr (refl, far.0))) is

-- ── the totals of a book ──

module _ (mark : ℕ) (kept : KeptRows) (book : List Entry) (are : AreItemsOf kept book) where
  abbrev passes : TotalRow → Bool
  passes row = is_next mark row.item

  -- each has a number that an entry can have
  few : All (λ (row : TotalRow). row.item ≤ MOST_ENTRIES) (total_rows book)
  few =
      let most = are.0.few in
      All-weaker (λ (row : TotalRow). row.item < next [] + length book) (λ (row : TotalRow). row.item ≤ MOST_ENTRIES) (λ row under. omega (arith, under, most)) (total_rows book)
      (keys_below (λ (row : TotalRow). row.item) 1 (next [] + length book) (total_rows book) (total_rows-rising book))

  left_are : filter (λ (row : TotalRow). not (nat_le row.item mark)) (total_rows book) ≡ filter passes (total_rows book)
  left_are =
      chosen_same (λ (row : TotalRow). row.item ≤ MOST_ENTRIES) (λ row. not (nat_le row.item mark)) passes (λ row low. behind_next mark row.item low) (total_rows book)
      (recursion_from_All (λ (row : TotalRow). row.item ≤ MOST_ENTRIES) (total_rows book) few)

  abbrev next_is : Option TotalRow → Type 0
  next_is next = next_total mark kept.totals.items ≡ next

  of_book : (next : Option TotalRow) → next_is next → find passes (total_rows book) ≡ next
  of_book next is = subst (λ rows. find passes rows ≡ next) are.1.totals is

  -- the total that was found is the next, and where none was found there is none
  total_next : (row : TotalRow) → next_is (Some row) → totals_next book mark ≡ row ∷ []
  total_next row is = ap (take 1) left_are ∙ first_found passes (total_rows book) row (of_book (Some row) is)

  total_none : next_is None → totals_next book mark ≡ []
  total_none is = ap (take 1) (left_are ∙ none_found passes (total_rows book) (of_book None is))

  pub total_due : (next : Option TotalRow) → next_is next → IsDueAt (total_by mark next) (moving 3 mark) book
  total_due (Some row) is = total_next row is
  total_due None is = no_item mark book (total_none is)

  pub bases_due : (next : Option TotalRow) → next_is next → (step : Due) → IsBasesBy mark kept.bases.items next step → IsDueAt step (moving 4 mark) book
  bases_due (Some row) is step by =
      let rows : IsPermutation by.0.items (bases_of book row.item) =
      subst (λ l. IsPermutation l (bases_of book row.item)) (sym by.1) (IsPermutation-filter (λ (base : BaseRow). nat_eq base.item row.item) kept.bases.items (base_rows book) are.1.bases) in
      subst (λ s. IsDueAt s (moving 4 mark) book) (sym by.2) (next_item mark row book (total_next row is), rows)
  bases_due None is step by = subst (λ s. IsDueAt s (moving 4 mark) book) (sym by) (no_item mark book (total_none is))

-- ── over any rows ──

pub total_for : (mark : ℕ) (next : Option TotalRow) → IsOfFile (moving 3 mark) → IsFor (total_by mark next) (moving 3 mark)
total_for mark (Some row) file = refl
total_for mark None file = (refl, on_the_way 3 mark file)

pub total_goes : (mark : ℕ) (totals : List TotalRow) (next : Option TotalRow) → next_total mark totals ≡ next → (trees : Trees) → GoesOn (total_by mark next) (moving 3 mark) trees
total_goes mark totals (Some row) is trees to new it =
    next_later 3 mark row.item to (omega arith) (omega arith) (found_passes (λ (r : TotalRow). is_next mark r.item) totals row is) it.point
total_goes mark totals None is trees to new it = later (moving 3 mark) to (moving 4 0) (inl refl) (inr (refl, inl (omega arith))) it.point

pub bases_for : (mark : ℕ) (bases : List BaseRow) (next : Option TotalRow) (step : Due) → IsBasesBy mark bases next step → IsOfFile (moving 4 mark) → IsFor step (moving 4 mark)
bases_for mark bases (Some row) step by file = subst (λ s. IsFor s (moving 4 mark)) (sym by.2) refl
bases_for mark bases None step by file = subst (λ s. IsFor s (moving 4 mark)) (sym by) (refl, on_the_way 4 mark file)

pub bases_goes : (mark : ℕ) (totals : List TotalRow) (bases : List BaseRow) (next : Option TotalRow) (step : Due) → next_total mark totals ≡ next → IsBasesBy mark bases next step → (trees : Trees) → GoesOn step (moving 4 mark) trees
bases_goes mark totals bases (Some row) step is by trees =
    subst (λ s. GoesOn s (moving 4 mark) trees) (sym by.2)
    (λ to new it. next_later 4 mark row.item to (omega arith) (omega arith) (found_passes (λ (r : TotalRow). is_next mark r.item) totals row is) it.point)
bases_goes mark totals bases None step is by trees =
    subst (λ s. GoesOn s (moving 4 mark) trees) (sym by)
    (λ to new it. later (moving 4 mark) to (settled 2) (inr refl) (inl (omega arith)) it.point)

-- ── which step the registers call for ──

module _ (mark : ℕ) (kept : KeptRows) (trees : Trees) (are : AreKeptIn kept trees) where
  pub total_called : (next : Option TotalRow) → next_total mark kept.totals.items ≡ next → IsCalledFor (total_by mark next) trees
  total_called (Some row) is = (kept, are, is)
  total_called None is = (kept, are, is)

  pub bases_called : (next : Option TotalRow) → next_total mark kept.totals.items ≡ next → (step : Due) → IsBasesBy mark kept.bases.items next step → IsCalledFor step trees
  bases_called (Some row) is step by = subst (λ s. IsCalledFor s trees) (sym by.2) (kept, are, (row, is, refl), by.1)
  bases_called None is step by = subst (λ s. IsCalledFor s trees) (sym by) (kept, are, is)
