-- Worked rows: the accomplishments of a task of an item, and which table of layout 3 is told damaged for which rows.
-- The rows that are none of their type lack a value in a column that may not be NULL.
use Rattle.std.proofs.Common.{◌≡◌, ℕ, pos, List, [], ◌∷◌, map, filter, None, Some, inl, inr, refl, ap}
use Rattle.std.specs.Prelude.{codes}
use Rattle.sqlite.specs.declared.types.Value.TheVariants.{Int, Null, Text}
use Rattle.sqlite.specs.Order.{Row}
use Rattle.sqlite.specs.Tree.{Trees}
use Rattle.sqlite_sql.specs.Ops.{binary}
use Rattle.sqlite_value.specs.Order.{value_cmp}
use lib.Ieee.{is_nan, lt}
use Rattle.mx_base.specs.declared.category.Category.TheVariants.{C}
use Rattle.mx_base.specs.declared.rows.rows.Deferral3Row.{Deferral3Row}
use Rattle.mx_base.specs.declared.rows.rows.DoneRow.{DoneRow}
use Rattle.mx_book.specs.declared.commands.item.Item.TheVariants.{Airframe}
use Rattle.mx_book.proofs.Worked.{abcd}
use Rattle.mx_book.proofs.WorkedDefects.{x1}
use Rattle.mx_book.proofs.WorkedFittings.{efgh}
use Rattle.mx_book.proofs.WorkedProgrammes.{first_four}
use Rattle.mx_layout.specs.TableName.{TableName}
use Rattle.mx_layout.specs.declared.fault.Table.TheVariants as table
use Rattle.mx_layout.specs.Contents.{rows_in}
use Rattle.mx_layout.specs.Tables as tables
use Rattle.mx_layout.specs.kept.Cells.{kept_aircraft, kept_crs_line, kept_defect3, kept_done3}
use Rattle.mx_table_rows.specs.chosen.Choices.{has_value, is_any}
use Rattle.mx_lookups.specs.numbers.Given.{AircraftNumber, DefectNumber, ItemNumber, is_of}
use Rattle.mx_lookups.specs.numbers.Later.{AccomplishmentsDamage, AllOpenFoundDamage, DefectFoundDamage, DefectsFoundButDamage, DefectsFoundDamage, DeferralFound, DeferralFoundDamage, HasPastDone, LastBaseDamage, OpenFoundDamage, rows_accomplished}
use Rattle.mx_lookups.specs.numbers.Told.{AircraftDamage, DefectIfOpenDamage, DocIfOpenDamage, EntryDamage, HasNoEntry, IsChosen, ItemDamage, LacksOne, Unread}
use Rattle.mx_lookups.proofs.NumbersProofs.WorkedTold.{aircraft_row, two_aircraft, unread}

-- ── accomplishments ──

-- the yearly inspection of D-ABCD, entry 1, which entry 3 states
abbrev stated : DoneRow
stated = record {
  item = 1;
  task = codes "ANNUAL";
  seq = 3;
  line = 0;
  value = record { minutes = 59000; cycles = 780; day = 19509 };
  due = record { minutes = None; cycles = None; days = None };
  base = record { minutes = 59000; cycles = 780; day = 19509 };
}

-- of another task there is none, and of an aircraft that is not there
accomplished : map (λ (tail : List ℕ). rows_accomplished first_four (Airframe tail) (codes "ANNUAL")) (abcd ∷ efgh ∷ []) ≡ (stated ∷ []) ∷ [] ∷ []
accomplished = refl

other_task : rows_accomplished first_four (Airframe abcd) (codes "100H") ≡ []
other_task = refl

-- an accomplishment without its line
abbrev done_row : ℕ → List ℕ → ℕ → Row
done_row item task n = Int (pos item) ∷ Text task ∷ Int (pos n) ∷ Null ∷ Int (pos 60000) ∷ Int (pos 800) ∷ Int (pos 19723) ∷ Null ∷ Null ∷ Null ∷ Int (pos 60000) ∷ Int (pos 800) ∷ Int (pos 19723) ∷ []

abbrev three_done : List Row
three_done = done_row 1 (codes "ANNUAL") 3 ∷ done_row 1 (codes "100H") 9 ∷ done_row 7 (codes "100H") 9 ∷ []

done_told : (trees : Trees) → rows_in tables.done3 trees ≡ three_done → ItemNumber (Airframe abcd) trees (Some 1) → AccomplishmentsDamage (Airframe abcd) (codes "100H") table.Done3 trees × LastBaseDamage (Airframe abcd) (codes "100H") table.Done3 trees
unfolding binary value_cmp is_nan lt
done_told trees there number =
    let told : Unread kept_done3 (is_of 1 (codes "100H")) table.Done3 trees = unread kept_done3 _ 3 trees _ (done_row 1 (codes "100H") 9) there refl refl (λ x. refl) in
    (inr (1, number, told), inr (1, number, inl told))

by_item : (name : TableName) (trees : Trees) → ItemDamage (Airframe abcd) name trees → AccomplishmentsDamage (Airframe abcd) (codes "100H") name trees × LastBaseDamage (Airframe abcd) (codes "100H") name trees
by_item name trees is = (inl is, inl is)

past_done_told : (trees : Trees) → ItemNumber (Airframe abcd) trees (Some 1) → HasPastDone 1 (codes "100H") trees → LastBaseDamage (Airframe abcd) (codes "100H") table.Done3 trees
past_done_told trees number past = inr (1, number, inr (refl, past))

-- ── defects ──

-- a deferral without its reference: its entry, and its aircraft
abbrev deferral_row : ℕ → ℕ → Row
deferral_row n aircraft = Int (pos n) ∷ Int (pos aircraft) ∷ Int (pos 28445760) ∷ Null ∷ Int (pos 3) ∷ Null ∷ Null ∷ Int (pos 800) ∷ []

-- entry 2 defers a defect of the aircraft of entry 7, and entry 5 one of D-ABCD, which is entry 1
abbrev two_deferrals : List Row
two_deferrals = deferral_row 2 7 ∷ deferral_row 5 1 ∷ []

-- X1, entry 5, is of D-ABCD
abbrev deferral_of_x1 : ℕ → Deferral3Row
deferral_of_x1 aircraft = record { deferral = record { seq = 5; aircraft = aircraft; moment = 28445760; reference = codes "21-31-01"; category = C }; found_cycles = 800 }

by_entry : (name : TableName) (trees : Trees) → EntryDamage x1 name trees → DefectFoundDamage x1 name trees
by_entry name trees is = inl is

-- the deferral is none, or is not there
deferrals_told : (trees : Trees) → rows_in tables.defect3 trees ≡ two_deferrals → DeferralFoundDamage 5 table.Defect3 trees × DeferralFoundDamage 7 table.Defect3 trees
unfolding binary value_cmp is_nan lt
deferrals_told trees there = (inl (inl (unread kept_defect3 _ 3 trees _ (deferral_row 5 1) there refl refl (λ x. refl))), inr (refl, ap (filter (has_value 0 (Int (pos 7)))) there))

-- the deferral names an aircraft whose row is none, or one that is not there: the deferral is to blame
aircraft_deferred_told : (trees : Trees) → rows_in tables.aircraft trees ≡ two_aircraft → DeferralFound 5 trees (Some (deferral_of_x1 1)) → DeferralFound 6 trees (Some (deferral_of_x1 3)) → DeferralFoundDamage 5 table.Aircraft trees × DeferralFoundDamage 6 table.Defect3 trees
unfolding binary value_cmp is_nan lt
aircraft_deferred_told trees there one three =
    (inl (inr (deferral_of_x1 1, one, inl (unread kept_aircraft _ 2 trees _ (aircraft_row 1 abcd) there refl refl (λ x. refl)))), inl (inr (deferral_of_x1 3, three, inr (refl, ap (filter (has_value 0 (Int (pos 3)))) there))))

by_defect : (name : TableName) (trees : Trees) → DefectNumber x1 trees (Some 5) → DeferralFoundDamage 5 name trees → DefectFoundDamage x1 name trees
by_defect name trees number is = inr (5, number, is)

-- the deferrals of D-ABCD, by the second column
deferrals_of_aircraft_told : (trees : Trees) → rows_in tables.defect3 trees ≡ two_deferrals → AircraftNumber abcd trees (Some 1) → DefectsFoundDamage 1 table.Defect3 trees × OpenFoundDamage abcd table.Defect3 trees
unfolding binary value_cmp is_nan lt
deferrals_of_aircraft_told trees there number =
    let told : Unread kept_defect3 (has_value 1 (Int (pos 1))) table.Defect3 trees = unread kept_defect3 _ 3 trees _ (deferral_row 5 1) there refl refl (λ x. refl) in
    (inl told, inr (1, number, inl told))

open_by_aircraft : (name : TableName) (trees : Trees) → AircraftDamage abcd name trees → OpenFoundDamage abcd name trees
open_by_aircraft name trees is = inl is

-- what is looked up for one of them, and its entry that is not there: the deferral is to blame
deferral_of_aircraft_told : (name : TableName) (trees : Trees) → IsChosen kept_defect3 (has_value 1 (Int (pos 1))) trees (deferral_of_x1 1) → DocIfOpenDamage 5 name trees → DefectsFoundDamage 1 name trees
deferral_of_aircraft_told name trees chosen is = inr (deferral_of_x1 1, chosen, inl is)

without_entry_told : (trees : Trees) → IsChosen kept_defect3 (has_value 1 (Int (pos 1))) trees (deferral_of_x1 1) → HasNoEntry 5 trees → DefectsFoundDamage 1 table.Defect3 trees
without_entry_told trees chosen none = inr (deferral_of_x1 1, chosen, inr (refl, none))

-- ── the open defects of all ──

one_of_all_told : (name : TableName) (trees : Trees) → IsChosen kept_defect3 is_any trees (deferral_of_x1 1) → DefectIfOpenDamage (deferral_of_x1 1).deferral name trees → DefectsFoundButDamage name trees × AllOpenFoundDamage name trees
one_of_all_told name trees chosen is = (inr (deferral_of_x1 1, chosen, inl is), inr (inr (deferral_of_x1 1, chosen, inl is)))

one_without_told : (trees : Trees) → IsChosen kept_defect3 is_any trees (deferral_of_x1 1) → LacksOne (deferral_of_x1 1).deferral trees → DefectsFoundButDamage table.Defect3 trees × AllOpenFoundDamage table.Defect3 trees
one_without_told trees chosen lacks = (inr (deferral_of_x1 1, chosen, inr (refl, lacks)), inr (inr (deferral_of_x1 1, chosen, inr (refl, lacks))))

deferral_of_all_told : (trees : Trees) → rows_in tables.defect3 trees ≡ deferral_row 2 7 ∷ [] → DefectsFoundButDamage table.Defect3 trees
deferral_of_all_told trees there = inl (unread kept_defect3 _ 3 trees _ (deferral_row 2 7) there refl refl (λ x. refl))

line_of_all_told : (name : TableName) (trees : Trees) → Unread kept_crs_line is_any name trees → AllOpenFoundDamage name trees
line_of_all_told name trees is = inl is
