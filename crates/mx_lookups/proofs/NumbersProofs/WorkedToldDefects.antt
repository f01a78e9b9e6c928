-- Worked rows: which table is told damaged for which rows, of defects: their entries, deferrals, extensions, and the lines that rectify them.
-- The rows that are none of their type lack a value in a column that may not be NULL.
use Rattle.std.proofs.Common.{◌≡◌, ℕ, pos, false, List, [], ◌∷◌, filter, Some, inl, inr, refl, ap}
use Rattle.std.specs.Prelude.{codes}
use Rattle.sqlite.specs.declared.types.Value.TheVariants.{Int, Null}
use Rattle.sqlite.specs.Order.{Row}
use Rattle.sqlite.specs.Tree.{Trees}
use Rattle.sqlite_sql.specs.Ops.{binary}
use Rattle.sqlite_value.specs.Order.{value_cmp}
use lib.Ieee.{is_nan, lt}
use Rattle.mx_base.specs.declared.category.Category.TheVariants.{C}
use Rattle.mx_base.specs.declared.rows.rows.DeferralRow.{DeferralRow}
use Rattle.mx_book.proofs.Worked.{abcd}
use Rattle.mx_book.proofs.WorkedDefects.{x1}
use Rattle.mx_layout.specs.TableName.{TableName}
use Rattle.mx_layout.specs.declared.fault.Table.TheVariants as table
use Rattle.mx_layout.specs.Contents.{rows_in}
use Rattle.mx_layout.specs.Tables as tables
use Rattle.mx_layout.specs.kept.Cells.{kept_aircraft, kept_crs_line, kept_defect, kept_entry, kept_extension}
use Rattle.mx_table_rows.specs.chosen.Choices.{has_value, is_any}
use Rattle.mx_lookups.specs.numbers.Given.{AircraftNumber, DefectNumber, DocOfNumber, IsRectifiedAt}
use Rattle.mx_lookups.specs.numbers.Told.{AircraftDamage, AircraftDeferred, AllOpenDamage, DefectDamage, DefectIfOpenDamage, DefectOfRowDamage, DefectsButDamage, DefectsDamage, DeferralDamage, DocDamage, DocIfOpenDamage, EntryDamage, ExtensionDamage, HasNoEntry, IsChosen, LacksOne, OpenDamage, OpenDocDamage, RectifiedAtDamage, RectifiedDamage, TailDamage, Unread, WhereOpen}
use Rattle.mx_lookups.proofs.NumbersProofs.WorkedTold.{aircraft_row, entry_row, two_aircraft, unread}

-- ── the rows ──

-- a deferral without its reference: its entry, and its aircraft
abbrev deferral_row : ℕ → ℕ → Row
deferral_row n aircraft = Int (pos n) ∷ Int (pos aircraft) ∷ Int (pos 28445760) ∷ Null ∷ Int (pos 3) ∷ Null ∷ []

-- a line without its place, of the release with this entry, which rectifies a defect
abbrev line_row : ℕ → ℕ → Row
line_row n defect = Int (pos n) ∷ Null ∷ Null ∷ Null ∷ Int (pos defect) ∷ []

-- an extension without its days: its entry, and that of its defect
abbrev extension_row : ℕ → ℕ → Row
extension_row n defect = Int (pos n) ∷ Int (pos defect) ∷ Int (pos 19750) ∷ Null ∷ []

-- entry 2 defers a defect of the aircraft of entry 7, and entry 5 one of D-ABCD, which is entry 1
abbrev two_deferrals : List Row
two_deferrals = deferral_row 2 7 ∷ deferral_row 5 1 ∷ []

-- ── by a document ──

by_entry : (name : TableName) (trees : Trees) → EntryDamage x1 name trees → DefectDamage x1 name trees × RectifiedDamage x1 name trees × ExtensionDamage x1 name trees
by_entry name trees is = (inl is, inl is, inl is)

-- the deferral is none, or is not there
deferrals_told : (trees : Trees) → rows_in tables.defect trees ≡ two_deferrals → DeferralDamage 5 table.Defect trees × DeferralDamage 7 table.Defect trees
unfolding binary value_cmp is_nan lt
deferrals_told trees there = (inl (inl (unread kept_defect _ 3 trees _ (deferral_row 5 1) there refl refl (λ x. refl))), inr (refl, ap (filter (has_value 0 (Int (pos 7)))) there))

-- the deferral names an aircraft whose row is none, or one that is not there
aircraft_deferred_told : (trees : Trees) → rows_in tables.aircraft trees ≡ two_aircraft → AircraftDeferred 5 trees (Some 1) → AircraftDeferred 6 trees (Some 3) → DeferralDamage 5 table.Aircraft trees × DeferralDamage 6 table.Defect trees
unfolding binary value_cmp is_nan lt
aircraft_deferred_told trees there one three =
    (inl (inr (1, one, inl (unread kept_aircraft _ 2 trees _ (aircraft_row 1 abcd) there refl refl (λ x. refl)))), inl (inr (3, three, inr (refl, ap (filter (has_value 0 (Int (pos 3)))) there))))

-- X1 is entry 5
by_defect : (name : TableName) (trees : Trees) → DefectNumber x1 trees (Some 5) → DeferralDamage 5 name trees → DefectDamage x1 name trees
by_defect name trees number is = inr (5, number, is)

-- the item of a line is NULL where it rectifies a defect, which the fifth column names
rectified_told : (trees : Trees) → rows_in tables.crs_line trees ≡ line_row 5 2 ∷ line_row 8 5 ∷ [] → RectifiedAtDamage 5 table.CrsLine trees
unfolding binary value_cmp is_nan lt
rectified_told trees there = unread kept_crs_line _ 1 trees _ (line_row 8 5) there refl refl (λ x. refl)

lines_of_defect_told : (trees : Trees) → rows_in tables.crs_line trees ≡ line_row 5 2 ∷ line_row 8 5 ∷ [] → DefectNumber x1 trees (Some 5) → RectifiedDamage x1 table.CrsLine trees × DocIfOpenDamage 5 table.CrsLine trees
lines_of_defect_told trees there number = (inr (5, number, rectified_told trees there), inl (rectified_told trees there))

extensions_told : (trees : Trees) → rows_in tables.extension trees ≡ extension_row 5 2 ∷ extension_row 9 5 ∷ [] → DefectNumber x1 trees (Some 5) → ExtensionDamage x1 table.Extension trees
unfolding binary value_cmp is_nan lt
extensions_told trees there number = inr (5, number, unread kept_extension _ 3 trees _ (extension_row 9 5) there refl refl (λ x. refl))

-- ── those that are open ──

-- the entry is read where no line rectifies its defect
entry_of_open_told : (trees : Trees) → rows_in tables.entry trees ≡ entry_row 2 (codes "X0") ∷ entry_row 5 x1 ∷ [] → IsRectifiedAt 5 trees false → OpenDocDamage 5 table.Entry trees × DocIfOpenDamage 5 table.Entry trees
unfolding binary value_cmp is_nan lt
entry_of_open_told trees there unrectified =
    let told : DocDamage 5 table.Entry trees = unread kept_entry _ 2 trees _ (entry_row 5 x1) there refl refl (λ x. refl) in
    ((unrectified, told), inr (unrectified, told))

-- the deferrals of D-ABCD, by the second column
deferrals_of_aircraft_told : (trees : Trees) → rows_in tables.defect trees ≡ two_deferrals → AircraftNumber abcd trees (Some 1) → DefectsDamage 1 table.Defect trees × OpenDamage abcd table.Defect trees
unfolding binary value_cmp is_nan lt
deferrals_of_aircraft_told trees there number =
    let told : Unread kept_defect (has_value 1 (Int (pos 1))) table.Defect trees = unread kept_defect _ 3 trees _ (deferral_row 5 1) there refl refl (λ x. refl) in
    (inl told, inr (1, number, inl told))

open_by_aircraft : (name : TableName) (trees : Trees) → AircraftDamage abcd name trees → OpenDamage abcd name trees
open_by_aircraft name trees is = inl is

-- what is looked up for one of them, and its entry that is not there: the deferral is to blame
deferral_of_aircraft_told : (name : TableName) (trees : Trees) (row : DeferralRow) → IsChosen kept_defect (has_value 1 (Int (pos 1))) trees row → DocIfOpenDamage row.seq name trees → DefectsDamage 1 name trees
deferral_of_aircraft_told name trees row chosen is = inr (row, chosen, inl is)

without_entry_told : (trees : Trees) (row : DeferralRow) → IsChosen kept_defect (has_value 1 (Int (pos 1))) trees row → HasNoEntry row.seq trees → DefectsDamage 1 table.Defect trees
without_entry_told trees row chosen none = inr (row, chosen, inr (refl, none))

-- ── by the row of a deferral ──

-- X1, entry 5, is of D-ABCD, entry 1
abbrev deferral_of_x1 : DeferralRow
deferral_of_x1 = record { seq = 5; aircraft = 1; moment = 28445760; reference = codes "21-31-01"; category = C }

lines_of_row_told : (trees : Trees) → rows_in tables.crs_line trees ≡ line_row 5 2 ∷ line_row 8 5 ∷ [] → DefectIfOpenDamage deferral_of_x1 table.CrsLine trees
lines_of_row_told trees there = inl (inl (rectified_told trees there))

aircraft_of_row_told : (name : TableName) (trees : Trees) → WhereOpen deferral_of_x1 (TailDamage 1 name) trees → DefectIfOpenDamage deferral_of_x1 name trees
aircraft_of_row_told name trees is = inr is

entry_of_row_told : (name : TableName) (trees : Trees) → DocDamage 5 name trees → DefectOfRowDamage deferral_of_x1 name trees
entry_of_row_told name trees is = inl is

aircraft_behind_entry_told : (name : TableName) (trees : Trees) → DocOfNumber 5 trees (Some x1) → TailDamage 1 name trees → DefectOfRowDamage deferral_of_x1 name trees
aircraft_behind_entry_told name trees doc is = inr (x1, doc, is)

-- ── the open defects of all ──

one_of_all_told : (name : TableName) (trees : Trees) → IsChosen kept_defect is_any trees deferral_of_x1 → DefectIfOpenDamage deferral_of_x1 name trees → DefectsButDamage name trees × AllOpenDamage name trees
one_of_all_told name trees chosen is = (inr (deferral_of_x1, chosen, inl is), inr (inr (deferral_of_x1, chosen, inl is)))

one_without_told : (trees : Trees) → IsChosen kept_defect is_any trees deferral_of_x1 → LacksOne deferral_of_x1 trees → DefectsButDamage table.Defect trees × AllOpenDamage table.Defect trees
one_without_told trees chosen lacks_one = (inr (deferral_of_x1, chosen, inr (refl, lacks_one)), inr (inr (deferral_of_x1, chosen, inr (refl, lacks_one))))

deferral_of_all_told : (trees : Trees) → rows_in tables.defect trees ≡ deferral_row 2 7 ∷ [] → DefectsButDamage table.Defect trees
deferral_of_all_told trees there = inl (unread kept_defect _ 3 trees _ (deferral_row 2 7) there refl refl (λ x. refl))

line_of_all_told : (trees : Trees) → rows_in tables.crs_line trees ≡ line_row 8 5 ∷ [] → AllOpenDamage table.CrsLine trees
line_of_all_told trees there = inl (unread kept_crs_line _ 1 trees _ (line_row 8 5) there refl refl (λ x. refl))
