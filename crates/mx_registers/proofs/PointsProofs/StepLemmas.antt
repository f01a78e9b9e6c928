-- The next point, while a step has something left to move.
use Rattle.std.proofs.Common.{arith, refl, ap, ◌∙◌, ◌≡◌, ℕ, ◌+◌, ◌≤◌, ◌<◌, zero, suc, length, List, [], ◌∷◌, Bool, true, false, cond, ◌&&◌, ◌||◌, Option, take}
use Rattle.std.specs.Prelude.{nat_le, nat_lt, nat_eq, filter, map, not}
use Rattle.std.proofs.lemmas.Bool.Decides.{nat_tests}
use Rattle.mx_book.specs.commands.Act.{Entry}
use Rattle.mx_book.specs.Book.{IsBook}
use Rattle.mx_book.specs.Programme.{last_of}
use Rattle.mx_book.specs.declared.limits.TheConstants.{MOST_ENTRIES}
use Rattle.mx_base.specs.rows.Rising.{IsRising}
use Rattle.mx_base.specs.declared.rows.rows.DeferralRow.{DeferralRow}
use Rattle.mx_base.specs.declared.rows.rows.SectorRow.{SectorRow}
use Rattle.mx_registers.specs.Registers.{deferral_rows, sector_rows}
use Rattle.mx_registers.proofs.RegisterLemmas.{deferral_rows-rising, sector_rows-rising}
use Rattle.mx_registers.specs.points.Moves.{deferrals_mark, deferrals_next, last_moved, sectors_mark, sectors_next}
use Rattle.mx_registers.specs.declared.points.points.TheConstants.{NEWEST_LAYOUT}
use Rattle.mx_registers.specs.points.Points.{is_before, is_in_move, is_on_way, moving, moving_from, next_point, next_point_to, numbers_of, on_to, point_after, point_after_to, steps_from}
use Rattle.mx_registers.proofs.PointsProofs.PointLemmas.{above, le_true, next_number}

-- ── points in a step ──

pub not_zero : (step : ℕ) → 0 < step → nat_eq step 0 ≡ false
not_zero step h = grind (arith, nat_tests)

pub lt_true : (n m : ℕ) → n < m → nat_lt n m ≡ true
lt_true n m h = grind (arith, nat_tests)

-- a point in a step of the move from a layout, with a mark that an entry can have, is on the way to each layout behind that
pub step_before : (newest layout step mark : ℕ) → layout < newest → 0 < step → step ≤ steps_from layout → mark ≤ MOST_ENTRIES → is_before newest (moving_from layout step mark) ≡ true
step_before newest layout step mark under some last by =
    let last_step = steps_from layout in
    let move : nat_lt 0 last_step ≡ true = lt_true 0 last_step (omega (arith, last)) in
    ap (λ b. b && is_in_move (moving_from layout step mark)) (lt_true layout newest under)
    ∙ ap (λ b. (b && nat_le step last_step) && (nat_le mark MOST_ENTRIES && (not (nat_eq step 0) || nat_eq mark 0))) move
    ∙ ap (λ b. b && (nat_le mark MOST_ENTRIES && (not (nat_eq step 0) || nat_eq mark 0))) (le_true step last_step last)
    ∙ ap (λ b. b && (not (nat_eq step 0) || nat_eq mark 0)) (le_true mark MOST_ENTRIES by)
    ∙ ap (λ b. not b || nat_eq mark 0) (not_zero step some)

-- the point behind one in a step
pub step_after_to : (newest layout step mark : ℕ) (o : Option ℕ) → layout < newest → 0 < step → step ≤ steps_from layout → mark ≤ MOST_ENTRIES → point_after_to newest (moving_from layout step mark) o ≡ on_to (moving_from layout step mark) o
step_after_to newest layout step mark o under some last by =
    let at = moving_from layout step mark in
    ap (λ b. cond b (cond (nat_eq step 0) (moving_from layout 1 0) (on_to at o)) at) (step_before newest layout step mark under some last by)
    ∙ ap (λ b. cond b (moving_from layout 1 0) (on_to at o)) (not_zero step some)

-- both for the move from layout 1, on the way to the newest
pub step_on_way : (step mark : ℕ) → 0 < step → step ≤ 4 → mark ≤ MOST_ENTRIES → is_on_way (moving step mark) ≡ true
step_on_way step mark some last by = step_before NEWEST_LAYOUT 1 step mark (omega arith) some last by

pub step_after : (step mark : ℕ) (o : Option ℕ) → 0 < step → step ≤ 4 → mark ≤ MOST_ENTRIES → point_after (moving step mark) o ≡ on_to (moving step mark) o
step_after step mark o some last by = step_after_to NEWEST_LAYOUT 1 step mark o (omega arith) some last by

-- ── sectors and deferrals ──

module _ {Row : Type 0} (number : Row → ℕ) where
  pub rising_bound : (low high : ℕ) (xs : List Row) → IsRising number low xs high → low ≤ high
  rising_bound low high [] up = up
  rising_bound low high (x ∷ xs) up = let rest = rising_bound (number x + 1) high xs up.1 in omega (arith, up.0)

  -- where a row has a number above the mark, the mark is below the bound of the numbers
  pub mark_bound : (mark low high n : ℕ) (xs : List Row) (row : Row) (rows : List Row) → IsRising number low xs high → take n (filter (above number mark) xs) ≡ row ∷ rows → mark < high
  mark_bound mark low high zero xs row rows up h = (cc)
  mark_bound mark low high (suc n) [] row rows up h = (cc)
  mark_bound mark low high (suc n) (x ∷ xs) row rows up h = at (nat_le (number x) mark) refl h (mark_bound mark (number x + 1) high (suc n) xs row rows up.1)
    where
      at : (b : Bool) → nat_le (number x) mark ≡ b → take (suc n) (cond (not b) (x ∷ filter (above number mark) xs) (filter (above number mark) xs)) ≡ row ∷ rows
          → (take (suc n) (filter (above number mark) xs) ≡ row ∷ rows → mark < high) → mark < high
      at true e h rest = rest h
      at false e h rest =
          let over : mark < number x = grind (arith, nat_tests) in
          let bound = rising_bound (number x + 1) high xs up.1 in omega arith

-- while rows are left, the next point is that of the last that the commit moves
batch_next_point : {Row : Type 0} (number : Row → ℕ) (rows : List Row) (newest layout mark : ℕ) (book : List Entry) → IsBook book → layout < newest → 1 ≤ steps_from layout → IsRising number 1 rows (length book + 1) → numbers_of layout 1 book ≡ map number rows
    → (row : Row) (rest : List Row) → take 64 (filter (above number mark) rows) ≡ row ∷ rest
    → next_point_to newest (moving_from layout 1 mark) book ≡ moving_from layout 1 (last_moved number mark (take 64 (filter (above number mark) rows)))
batch_next_point number rows newest layout mark book b under last up numbers row rest e =
    let bound : mark < length book + 1 = mark_bound number mark 1 (length book + 1) 64 rows row rest up e in
    let by : mark ≤ MOST_ENTRIES = omega (arith, b.few) in
    step_after_to newest layout 1 mark _ under (omega arith) last by
    ∙ ap (on_to (moving_from layout 1 mark)) (ap (λ ns. last_of (take 64 (filter (λ n. not (nat_le n mark)) ns))) numbers ∙ next_number number mark 64 rows row rest e)

pub sectors_next_point : (book : List Entry) (mark : ℕ) (row : SectorRow) (rows : List SectorRow) → IsBook book → sectors_next book mark ≡ row ∷ rows → next_point (moving 1 mark) book ≡ moving 1 (sectors_mark book mark)
sectors_next_point book mark row rows b e =
    batch_next_point (λ (row : SectorRow). row.seq) (sector_rows book) NEWEST_LAYOUT 1 mark book b (omega arith) (omega arith) (sector_rows-rising book b.shaped) refl row rows e

pub deferrals_next_point : (book : List Entry) (mark : ℕ) (row : DeferralRow) (rows : List DeferralRow) → IsBook book → deferrals_next book mark ≡ row ∷ rows → next_point_to 3 (moving_from 2 1 mark) book ≡ moving_from 2 1 (deferrals_mark book mark)
deferrals_next_point book mark row rows b e =
    batch_next_point (λ (row : DeferralRow). row.seq) (deferral_rows book) 3 2 mark book b (omega arith) (omega arith) (deferral_rows-rising book b.shaped) refl row rows e
