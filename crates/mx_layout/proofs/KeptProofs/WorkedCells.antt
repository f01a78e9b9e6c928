-- Worked rows: the values of each table's columns, one row of each, no two of its columns alike.
use Rattle.std.proofs.Common.{refl, ◌≡◌, [], ◌∷◌, map, true, false, Some, None}
use Rattle.std.specs.Prelude.{codes, pos}
use Rattle.mx_base.specs.Calendar.{date_of}
use Rattle.mx_base.specs.Texts.{day_text, moment_text}
use Rattle.sqlite.specs.declared.types.Value.TheVariants.{Int, Text, Null}
use Rattle.mx_base.specs.declared.category.Category.TheVariants.{A, C}
use Rattle.mx_base.specs.declared.rows.rows.EntryKind.TheVariants.{Opening}
use Rattle.mx_layout.specs.Point.{point_cells}
use Rattle.mx_layout.specs.kept.Values.{flag, number_or_null, text_or_null}
use Rattle.mx_layout.specs.kept.Cells.{kept_entry, kept_aircraft, kept_place, kept_component, kept_programme, kept_task, kept_opening, kept_crs, kept_crs_line, kept_defect, kept_extension, kept_sector1, kept_fit1, kept_removal1, kept_sector2, kept_sector2_rows, kept_span2, kept_total2, kept_base2, kept_defect3, kept_done3}

entry_cells : kept_entry.as_cells (record { seq = 9; doc = codes "O1"; kind = Opening }) ≡ Int (pos 9) ∷ Text (codes "O1") ∷ Int (pos 4) ∷ []
entry_cells = refl

-- moments count minutes from 1970, days from its first
aircraft_cells : kept_aircraft.as_cells (record { seq = 1; tail = codes "D-ABCD"; kind = codes "C172"; birth = 10957; minutes = 60000; cycles = 800; as_of = 28401120 })
    ≡ Int (pos 1) ∷ Text (codes "D-ABCD") ∷ Text (codes "C172") ∷ Int (pos 10957) ∷ Int (pos 60000) ∷ Int (pos 800) ∷ Int (pos 28401120) ∷ []
aircraft_cells = refl

place_cells : kept_place.as_cells (record { seq = 1; line = 2; position = codes "PROP1"; part = codes "HC2" }) ≡ Int (pos 1) ∷ Int (pos 2) ∷ Text (codes "PROP1") ∷ Text (codes "HC2") ∷ []
place_cells = refl

component_cells : kept_component.as_cells (record { seq = 2; serial = codes "E1"; part = codes "IO360"; birth = 14610; minutes = 1000; cycles = 100; as_of = 28401120 })
    ≡ Int (pos 2) ∷ Text (codes "E1") ∷ Text (codes "IO360") ∷ Int (pos 14610) ∷ Int (pos 1000) ∷ Int (pos 100) ∷ Int (pos 28401120) ∷ []
component_cells = refl

programme_cells : kept_programme.as_cells (record { seq = 3; kind = codes "C172"; revision = 2 }) ≡ Int (pos 3) ∷ Text (codes "C172") ∷ Int (pos 2) ∷ []
programme_cells = refl

-- a task of a part, in each dimension of each limit
task_cells : kept_task.as_cells (record {
  seq = 3;
  line = 4;
  id = codes "OVH";
  part = Some (codes "IO360");
  retire = true;
  first = record { minutes = Some 11; cycles = Some 12; days = Some 13 };
  repeat = record { minutes = Some 21; cycles = Some 22; days = Some 23 };
  tolerance = record { minutes = 31; cycles = 32; days = 33 };
})
    ≡ Int (pos 3) ∷ Int (pos 4) ∷ Text (codes "OVH") ∷ Text (codes "IO360") ∷ Int (pos 1) ∷ Int (pos 11) ∷ Int (pos 12) ∷ Int (pos 13) ∷ Int (pos 21) ∷ Int (pos 22) ∷ Int (pos 23)
    ∷ Int (pos 31) ∷ Int (pos 32) ∷ Int (pos 33) ∷ []
task_cells = refl

opening_cells : kept_opening.as_cells (record { seq = 7; item = 2; kind = codes "C172"; task = codes "OVH"; minutes = 900; cycles = 90; day = 19000 })
    ≡ Int (pos 7) ∷ Int (pos 2) ∷ Text (codes "C172") ∷ Text (codes "OVH") ∷ Int (pos 900) ∷ Int (pos 90) ∷ Int (pos 19000) ∷ []
opening_cells = refl

-- work at a component in a shop
release_cells : kept_crs.as_cells (record { seq = 8; item = 2; kind = Some (codes "C172"); moment = 28489680 }) ≡ Int (pos 8) ∷ Int (pos 2) ∷ Text (codes "C172") ∷ Int (pos 28489680) ∷ []
release_cells = refl

-- a task that was done, and a defect that was rectified
done_cells : kept_crs_line.as_cells (record { seq = 8; line = 1; item = Some 2; task = Some (codes "OVH"); defect = None }) ≡ Int (pos 8) ∷ Int (pos 1) ∷ Int (pos 2) ∷ Text (codes "OVH") ∷ Null ∷ []
done_cells = refl

rectified_cells : kept_crs_line.as_cells (record { seq = 8; line = 3; item = None; task = None; defect = Some 6 }) ≡ Int (pos 8) ∷ Int (pos 3) ∷ Null ∷ Null ∷ Int (pos 6) ∷ []
rectified_cells = refl

-- a category that states its days, and one that states none
stated_cells : kept_defect.as_cells (record { seq = 6; aircraft = 5; moment = 28495200; reference = codes "21-31-01"; category = A 14 })
    ≡ Int (pos 6) ∷ Int (pos 5) ∷ Int (pos 28495200) ∷ Text (codes "21-31-01") ∷ Int (pos 1) ∷ Int (pos 14) ∷ []
stated_cells = refl

unstated_cells : kept_defect.as_cells (record { seq = 6; aircraft = 5; moment = 28495200; reference = codes "21-31-01"; category = C })
    ≡ Int (pos 6) ∷ Int (pos 5) ∷ Int (pos 28495200) ∷ Text (codes "21-31-01") ∷ Int (pos 3) ∷ Null ∷ []
unstated_cells = refl

extension_cells : kept_extension.as_cells (record { seq = 9; defect = 6; day = 19790; days = 3 }) ≡ Int (pos 9) ∷ Int (pos 6) ∷ Int (pos 19790) ∷ Int (pos 3) ∷ []
extension_cells = refl

-- moments of sectors, fittings and removals are texts
sector_cells : kept_sector1.as_cells (record { seq = 5; aircraft = 1; page = 12; line = 2; took_off = 570; landed = 2879; cycles = 3 })
    ≡ Int (pos 5) ∷ Int (pos 1) ∷ Int (pos 12) ∷ Int (pos 2) ∷ Text (codes "1970-01-01T09:30") ∷ Text (codes "1970-01-02T23:59") ∷ Int (pos 3) ∷ []
unfolding date_of day_text moment_text
sector_cells = refl

fitting_cells : kept_fit1.as_cells (record { seq = 4; component = 2; aircraft = 1; position = codes "ENG1"; moment = 570 })
    ≡ Int (pos 4) ∷ Int (pos 2) ∷ Int (pos 1) ∷ Text (codes "ENG1") ∷ Text (codes "1970-01-01T09:30") ∷ []
unfolding date_of day_text moment_text
fitting_cells = refl

removal_cells : kept_removal1.as_cells (record { seq = 6; component = 2; moment = 2879 }) ≡ Int (pos 6) ∷ Int (pos 2) ∷ Text (codes "1970-01-02T23:59") ∷ []
unfolding date_of day_text moment_text
removal_cells = refl

-- those of layout 2 are numbers
sector2_cells : kept_sector2.as_cells (record { seq = 5; aircraft = 1; page = 12; line = 2; took_off = 570; landed = 2879; cycles = 3 })
    ≡ Int (pos 5) ∷ Int (pos 1) ∷ Int (pos 12) ∷ Int (pos 2) ∷ Int (pos 570) ∷ Int (pos 2879) ∷ Int (pos 3) ∷ []
sector2_cells = refl

held_cells : kept_sector2_rows.as_cells (record { sector = record { seq = 5; aircraft = 1; page = 12; line = 2; took_off = 570; landed = 2879; cycles = 3 } })
    ≡ Int (pos 5) ∷ Int (pos 1) ∷ Int (pos 12) ∷ Int (pos 2) ∷ Int (pos 570) ∷ Int (pos 2879) ∷ Int (pos 3) ∷ []
held_cells = refl

-- a component that entry 6 removed, and one that is still fitted
ended_cells : kept_span2.as_cells (record { fit_seq = 4; component = 2; aircraft = 1; position = codes "ENG1"; from = 570; remove_seq = Some 6; to = Some 2879 })
    ≡ Int (pos 4) ∷ Int (pos 2) ∷ Int (pos 1) ∷ Text (codes "ENG1") ∷ Int (pos 570) ∷ Int (pos 6) ∷ Int (pos 2879) ∷ []
ended_cells = refl

open_cells : kept_span2.as_cells (record { fit_seq = 4; component = 2; aircraft = 1; position = codes "ENG1"; from = 570; remove_seq = None; to = None })
    ≡ Int (pos 4) ∷ Int (pos 2) ∷ Int (pos 1) ∷ Text (codes "ENG1") ∷ Int (pos 570) ∷ Null ∷ Null ∷ []
open_cells = refl

total_cells : kept_total2.as_cells (record { item = 2; life = record { minutes = 1090; cycles = 101 }; clock = 28488090 }) ≡ Int (pos 2) ∷ Int (pos 1090) ∷ Int (pos 101) ∷ Int (pos 28488090) ∷ []
total_cells = refl

base_cells : kept_base2.as_cells (record { item = 2; task = codes "OVH"; life = record { minutes = 1090; cycles = 101 }; day = 19784 })
    ≡ Int (pos 2) ∷ Text (codes "OVH") ∷ Int (pos 1090) ∷ Int (pos 101) ∷ Int (pos 19784) ∷ []
base_cells = refl

-- the cycles within which it is rectified are never stated, and those at which it was found stand behind them
found_cells : kept_defect3.as_cells (record { deferral = record { seq = 6; aircraft = 5; moment = 28495200; reference = codes "21-31-01"; category = A 14 }; found_cycles = 803 })
    ≡ Int (pos 6) ∷ Int (pos 5) ∷ Int (pos 28495200) ∷ Text (codes "21-31-01") ∷ Int (pos 1) ∷ Int (pos 14) ∷ Null ∷ Int (pos 803) ∷ []
found_cells = refl

-- what the item had reached, the due, in a dimension that has one, and the base
accomplished_cells : kept_done3.as_cells (record {
  item = 2;
  task = codes "OVH";
  seq = 8;
  line = 1;
  value = record { minutes = 1090; cycles = 101; day = 19784 };
  due = record { minutes = Some 1080; cycles = None; days = Some 19790 };
  base = record { minutes = 1080; cycles = 100; day = 19783 };
})
    ≡ Int (pos 2) ∷ Text (codes "OVH") ∷ Int (pos 8) ∷ Int (pos 1) ∷ Int (pos 1090) ∷ Int (pos 101) ∷ Int (pos 19784) ∷ Int (pos 1080) ∷ Null ∷ Int (pos 19790) ∷ Int (pos 1080) ∷ Int (pos 100) ∷ Int (pos 19783) ∷ []
accomplished_cells = refl

-- the row of `office` has the number 1
office_cells : point_cells (record { layout = 1; step = 3; mark = 67 }) ≡ Int (pos 1) ∷ Int (pos 1) ∷ Int (pos 3) ∷ Int (pos 67) ∷ []
office_cells = refl

-- ── values ──

flags : map flag (true ∷ false ∷ []) ≡ Int (pos 1) ∷ Int (pos 0) ∷ []
flags = refl

numbers : map number_or_null (Some 7 ∷ Some 0 ∷ None ∷ []) ≡ Int (pos 7) ∷ Int (pos 0) ∷ Null ∷ []
numbers = refl

texts : map text_or_null (Some (codes "OVH") ∷ None ∷ []) ≡ Text (codes "OVH") ∷ Null ∷ []
texts = refl
