-- Worked texts of the lists of all aircraft, and of what there is.
use Rattle.std.proofs.Common.{refl, ◌≡◌, ℕ, List, [], ◌∷◌, Some, None}
use Rattle.std.specs.Prelude.{codes, pos, negsuc}
use Rattle.std.specs.Fmt.{digits}
use Rattle.mx_base.specs.Calendar.{date_of}
use Rattle.mx_base.specs.Texts.{day_text, moment_text}
use Rattle.mx_base.specs.declared.amounts.Status.TheVariants as statuses
use Rattle.mx_lists.specs.declared.due_row.DueRow.TheVariants.{Task as TaskRow, Defect as DefectRow}
use Rattle.mx_lists.specs.FleetRow.{with_tail}
use Rattle.mx_reports.specs.DefectText.{defect_words, until_line}
use Rattle.mx_reports.specs.DueText.{place_words, left_hours, left_number}
use Rattle.mx_reports.specs.FleetText.{deferred_lines, fleet_lines, outlook_lines}
use Rattle.mx_reports.specs.InventoryText.{aircraft_lines, component_lines, count_words, fitted_words}
use Rattle.mx_reports.specs.LimitText.{found_words}
use Rattle.mx_reports.specs.Words.{status_word}

-- day 19,792 is 2024-03-10
of_two_aircraft : fleet_lines (record {
  day = 19792;
  rows = with_tail (codes "D-ABCD") (TaskRow statuses.Due None (codes "100H") (record { minutes = Some (pos 0); cycles = None; days = None }))
      ∷ with_tail (codes "D-EFGH") (DefectRow statuses.Ok (codes "X1") 66 (codes "21-31-01") (pos 19793) (pos 1)) ∷ [];
})
    ≡ codes "fleet 2024-03-10\nDUE D-ABCD airframe 100H h=0:00 c=- d=-\nOK D-EFGH defect X1 B 21-31-01 last=2024-03-11 left=1\nend 2\n"
unfolding digits date_of day_text status_word place_words left_hours left_number defect_words until_line lib.Utf8.encode
of_two_aircraft = refl

reached_by_two : outlook_lines (record {
  day = 19792;
  days = 30;
  minutes = 60;
  cycles = 1;
  rows = with_tail (codes "D-ABCD") (record { after = 17; day = pos 19809; row = TaskRow statuses.Ok (Some (codes "ENG", codes "E1")) (codes "OVH") (record { minutes = Some (pos 1000); cycles = None; days = None }) }) ∷ [];
})
    ≡ codes "outlook 2024-03-10 30 60 1\n17 2024-03-27 D-ABCD part ENG E1 OVH\nend 1\n"
unfolding digits date_of day_text place_words
reached_by_two = refl

-- found on 2024-02-27, day 19,780
of_one_defect : deferred_lines (record {
  day = 19784;
  rows = with_tail (codes "D-EFGH") (record { status = statuses.Overdue; doc = codes "X4"; letter = 66; reference = codes "21-31-01"; found = 19780; extension = 0; last = pos 19783; left = negsuc 0 }) ∷ [];
})
    ≡ codes "deferred 2024-03-02\nOVERDUE D-EFGH X4 B 21-31-01 found=2024-02-27 ext=0 last=2024-03-01 left=-1\nend 1\n"
unfolding digits date_of day_text status_word defect_words until_line found_words lib.Utf8.encode
of_one_defect = refl

-- moment 28,488,090 is 2024-03-01T09:30
of_one_aircraft : aircraft_lines (record { tail = codes "D-ABCD"; kind = codes "C172"; life = record { minutes = 60090; cycles = 801 }; clock = 28488090; components = 2; defects = 1 } ∷ [])
    ≡ codes "aircraft\nD-ABCD C172 1001:30 801 2024-03-01T09:30 fitted=2 open=1\nend 1\n"
unfolding digits date_of day_text moment_text count_words
of_one_aircraft = refl

of_two_components : component_lines (record { serial = codes "E1"; part = codes "IO360"; life = record { minutes = 1090; cycles = 101 }; clock = 28488090; place = None }
    ∷ record { serial = codes "E2"; part = codes "IO360"; life = record { minutes = 1000; cycles = 100 }; clock = 28488090; place = Some (codes "D-ABCD", codes "ENG") } ∷ [])
    ≡ codes "components\nE1 IO360 18:10 101 2024-03-01T09:30 - -\nE2 IO360 16:40 100 2024-03-01T09:30 D-ABCD ENG\nend 2\n"
unfolding digits date_of day_text moment_text fitted_words
of_two_components = refl
