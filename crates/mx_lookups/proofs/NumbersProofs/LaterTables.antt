-- The tables of layout 3, where these stand for a book: the deferrals with the cycles at which they were found, and the accomplishments.
use Rattle.std.proofs.Common.{◌≡◌, ℕ, ◌+◌, true, List, [], ◌∷◌, map, length, All, refl, subst, sym}
use Rattle.std.specs.List.{list_all}
use Rattle.std.specs.List.Sorted.{IsPermutation}
use Rattle.sqlite.specs.Tree.{Trees}
use Rattle.mx_base.specs.declared.rows.rows.Deferral3Row.{Deferral3Row}
use Rattle.mx_base.specs.declared.rows.rows.DeferralRow.{DeferralRow}
use Rattle.mx_base.specs.rows.Rising.{IsRising}
use Rattle.mx_book.specs.commands.Act.{Entry}
use Rattle.mx_book.specs.commands.Shape.{has_shape}
use Rattle.mx_registers.specs.late.Done.{done_rows}
use Rattle.mx_registers.specs.late.Found.{found_rows}
use Rattle.mx_registers.specs.points.Tables.{deferrals_3, done_3}
use Rattle.mx_registers.proofs.LateProofs.FoundBecomes.{found_of_deferrals}
use Rattle.mx_registers.proofs.RegisterLemmas.{deferral_rows-rising}
use Rattle.mx_layout.specs.Contents.{rows_in}
use Rattle.mx_layout.specs.Names.{table_named}
use Rattle.mx_layout.specs.declared.fault.Table.TheVariants as table
use Rattle.mx_layout.specs.kept.Cells.{kept_defect3, kept_done3}
use Rattle.mx_book_tables.specs.stands.Stands.{HasRowsAt}
use Rattle.mx_book_tables.proofs.StandsProofs.FamilyLemmas.{Rise, facts}
use Rattle.mx_lookups.proofs.NumbersProofs.TableLemmas.{IsInEachAt, IsTableAt, in_each, later, table_is, whole_at}
use Rattle.mx_lookups.specs.numbers.Reads.{later_point}

-- ── deferrals ──

-- a list rises whose image does
rises_back : {X Y : Type 0} (f : X → Y) (key : Y → ℕ) (low high : ℕ) (xs : List X) → IsRising key low (map f xs) high → IsRising (λ x. key (f x)) low xs high
rises_back f key low high [] up = up
rises_back f key low high (x ∷ xs) up = (up.0, rises_back f key (key (f x) + 1) high xs up.1)

-- they rise by the numbers of their entries, as the deferrals of layout 2 do
found_rise : (book : List Entry) → list_all has_shape book ≡ true → Rise kept_defect3.key (found_rows book)
found_rise book shaped =
    let high = length book + 1 in
    let number : DeferralRow → ℕ = λ row. row.seq in
    (1, high, rises_back (λ (row : Deferral3Row). row.deferral) number 1 high (found_rows book) (subst (λ rows. IsRising number 1 rows high) (sym (found_of_deferrals book)) (deferral_rows-rising book shaped)))

pub deferrals_found : IsTableAt later_point kept_defect3 found_rows
deferrals_found = table_is table.Defect3 kept_defect3 deferrals_3 (facts table.Defect3) (λ row is. is) later refl (λ book is. found_rise book is.shaped) (λ trees book has. has.fit table.Defect3 refl) (λ trees book has. has.tables table.Defect3 refl)

-- ── accomplishments ──

-- They are not in the order of the key of the table, which several of one item have; so less is known of them than of other tables.
pub done_in : IsInEachAt later_point kept_done3
done_in = in_each table.Done3 kept_done3 done_3 (facts table.Done3) (λ row is. is) later refl

pub done_fit : (trees : Trees) (book : List Entry) → HasRowsAt later_point trees book → All kept_done3.Fits (done_rows book)
done_fit trees book has = subst (All kept_done3.Fits) (whole_at table.Done3 kept_done3 done_3 (facts table.Done3) (λ row is. is) later refl book) (has.fit table.Done3 refl)

pub done_given : (trees : Trees) (book : List Entry) → HasRowsAt later_point trees book → IsPermutation (map kept_done3.as_cells (done_rows book)) (rows_in (table_named kept_done3.name) trees)
done_given trees book has =
    subst (λ xs. IsPermutation (map kept_done3.as_cells xs) (rows_in (table_named kept_done3.name) trees)) (whole_at table.Done3 kept_done3 done_3 (facts table.Done3) (λ row is. is) later refl book) (has.tables table.Done3 refl)
