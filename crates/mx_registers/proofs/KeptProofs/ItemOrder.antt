-- The order of the items of a book and of their totals: by the numbers of the entries that added them.
use Rattle.std.proofs.Common.{arith, subst, ◌≡◌, ℕ, ◌+◌, ◌≤◌, length, List, [], ◌∷◌, ◌++◌, length-append}
use Rattle.std.specs.Prelude.{map}
use Rattle.mx_book.specs.commands.Act.{Act, Entry, Added, Listed}
use Rattle.mx_book.specs.declared.commands.item.Item.{Item}
use Rattle.mx_base.specs.rows.Rising.{IsRising}
use Rattle.mx_registers.specs.Registers.{gives_by, next}
use Rattle.mx_registers.specs.kept.Items.{items, items_by}
use Rattle.mx_registers.specs.kept.Totals.{total_row, total_rows}
use Rattle.mx_base.specs.declared.rows.rows.TotalRow.{TotalRow}

rising_lower : (low more high : ℕ) (xs : List (ℕ × Item)) → low ≤ more → IsRising (λ (x : ℕ × Item). x.0) more xs high → IsRising (λ (x : ℕ × Item). x.0) low xs high
rising_lower low more high [] h up = omega arith
rising_lower low more high (x ∷ xs) h up = (omega (arith, up.0), up.1)

pub items_from : (before later : List Entry) → IsRising (λ (x : ℕ × Item). x.0) (next before) (gives_by items_by before later) (next before + length later)
items_from before [] = omega arith
items_from before (x ∷ later) =
    let one : length (before ++ x ∷ []) ≡ length before + 1 = length-append before (x ∷ []) in
    let sum : length before + 1 + 1 + length later ≡ next before + length (x ∷ later) = omega arith in
    at x.act
    (subst (λ n. IsRising (λ (x : ℕ × Item). x.0) (next before + 1) (gives_by items_by (before ++ x ∷ []) later) n) sum
    (subst (λ n. IsRising (λ (x : ℕ × Item). x.0) (n + 1) (gives_by items_by (before ++ x ∷ []) later) (n + 1 + length later)) one (items_from (before ++ x ∷ []) later)))
  where
    at : (act : Act) → IsRising (λ (x : ℕ × Item). x.0) (next before + 1) (gives_by items_by (before ++ x ∷ []) later) (next before + length (x ∷ later))
        → IsRising (λ (x : ℕ × Item). x.0) (next before) (items_by before act ++ gives_by items_by (before ++ x ∷ []) later) (next before + length (x ∷ later))
    at (Added a positions) up = (omega arith, up)
    at (Listed c) up = (omega arith, up)
    at _ up = rising_lower (next before) (next before + 1) (next before + length (x ∷ later)) (gives_by items_by (before ++ x ∷ []) later) (omega arith) up

mapped : (book : List Entry) (low high : ℕ) (xs : List (ℕ × Item)) → IsRising (λ (x : ℕ × Item). x.0) low xs high → IsRising (λ (row : TotalRow). row.item) low (map (total_row book) xs) high
mapped book low high [] up = up
mapped book low high (x ∷ xs) up = (up.0, mapped book (x.0 + 1) high xs up.1)

-- the numbers of the items rise in the totals
pub total_rows-rising : (book : List Entry) → IsRising (λ (row : TotalRow). row.item) 1 (total_rows book) (next [] + length book)
total_rows-rising book = mapped book 1 (next [] + length book) (items book) (items_from [] book)
