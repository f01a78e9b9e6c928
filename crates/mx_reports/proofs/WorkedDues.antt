-- Worked texts of due lists, computed from the definitions.
use Rattle.std.proofs.Common.{refl, ◌≡◌, List, [], ◌∷◌, Some, None}
use Rattle.std.specs.Prelude.{codes, pos, negsuc, length}
use Rattle.std.specs.Fmt.{digits}
use Rattle.mx_base.specs.Calendar.{date_of}
use Rattle.mx_base.specs.Texts.{day_text}
use Rattle.mx_base.specs.declared.amounts.Status.TheVariants as statuses
use Rattle.mx_lists.specs.declared.due_row.DueList.{DueList}
use Rattle.mx_lists.specs.declared.due_row.DueRow.{DueRow}
use Rattle.mx_lists.specs.declared.due_row.DueRow.TheVariants.{Task as TaskRow, Defect as DefectRow}
use Rattle.mx_reports.specs.DueText.{place_words, left_hours, left_number, row_line, due_lines}
use Rattle.mx_reports.specs.DefectText.{defect_words, until_line}
use Rattle.mx_reports.specs.Words.{status_word}

-- the due list of 2024-03-10 with these rows
abbrev listed : List DueRow → DueList
listed rows = record { tail = codes "D-ABCD"; day = 19792; life = record { minutes = 60090; cycles = 801 }; rows = rows }

-- 100H, with 2,910 minutes left, and ANNUAL, with 82 days left
abbrev hundred_hours : DueRow
hundred_hours = TaskRow statuses.Ok None (codes "100H") (record { minutes = Some (pos 2910); cycles = None; days = None })

abbrev annual : DueRow
annual = TaskRow statuses.Ok None (codes "ANNUAL") (record { minutes = None; cycles = None; days = Some (pos 82) })

of_the_airframe : due_lines (listed (hundred_hours ∷ annual ∷ []))
    ≡ codes "due D-ABCD 2024-03-10 1001:30 801\nOK airframe 100H h=48:30 c=- d=-\nOK airframe ANNUAL h=- c=- d=82\nend 2\n"
unfolding digits day_text date_of status_word place_words left_hours left_number
of_the_airframe = refl

of_so_many_bytes : length (due_lines (listed (hundred_hours ∷ annual ∷ []))) ≡ 105
unfolding digits day_text date_of status_word place_words left_hours left_number
of_so_many_bytes = refl

without_rows : due_lines (listed []) ≡ codes "due D-ABCD 2024-03-10 1001:30 801\nend 0\n"
unfolding digits day_text date_of
without_rows = refl

-- a component stands in its position with its serial number
of_a_component : row_line (TaskRow statuses.Ok (Some (codes "DISK", codes "L1")) (codes "DISC") (record { minutes = None; cycles = Some (pos 1); days = None }))
    ≡ codes "OK part DISK L1 DISC h=- c=1 d=-\n"
unfolding digits status_word place_words left_hours left_number
of_a_component = refl

-- the due is reached: nothing is left in each dimension
reached : row_line (TaskRow statuses.Due None (codes "100H") (record { minutes = Some (pos 0); cycles = Some (pos 0); days = Some (pos 0) }))
    ≡ codes "DUE airframe 100H h=0:00 c=0 d=0\n"
unfolding digits status_word place_words left_hours left_number
reached = refl

-- the due is passed: by ten hours and a minute, and by cycles and days
passed : row_line (TaskRow statuses.Overdue None (codes "100H") (record { minutes = Some (negsuc 600); cycles = None; days = None }))
    ≡ codes "OVERDUE airframe 100H h=-10:01 c=- d=-\n"
unfolding digits status_word place_words left_hours left_number
passed = refl

passed_by_cycles_and_days : row_line (TaskRow statuses.Overdue (Some (codes "ENG", codes "E2")) (codes "OVH") (record { minutes = Some (pos 59); cycles = Some (negsuc 2); days = Some (negsuc 0) }))
    ≡ codes "OVERDUE part ENG E2 OVH h=0:59 c=-3 d=-1\n"
unfolding digits status_word place_words left_hours left_number
passed_by_cycles_and_days = refl

-- a defect of category B whose last day is 2024-03-10, and one of category D, with 92 days left
abbrev lamp : DueRow
lamp = DefectRow statuses.Due (codes "X2") 66 (codes "21-31-01") (pos 19792) (pos 0)

abbrev seat : DueRow
seat = DefectRow statuses.Ok (codes "X1") 68 (codes "25-11-02") (pos 19884) (pos 92)

with_defects : due_lines (listed (lamp ∷ hundred_hours ∷ seat ∷ []))
    ≡ codes "due D-ABCD 2024-03-10 1001:30 801\nDUE defect X2 B 21-31-01 last=2024-03-10 left=0\nOK airframe 100H h=48:30 c=- d=-\nOK defect X1 D 25-11-02 last=2024-06-10 left=92\nend 3\n"
unfolding digits day_text date_of status_word defect_words until_line lib.Utf8.encode place_words left_hours left_number
with_defects = refl

-- the last day of a defect is passed by one
passed_by_a_day : row_line (DefectRow statuses.Overdue (codes "X3") 67 (codes "33-40-01") (pos 19791) (negsuc 0))
    ≡ codes "OVERDUE defect X3 C 33-40-01 last=2024-03-09 left=-1\n"
unfolding digits day_text date_of status_word defect_words until_line lib.Utf8.encode
passed_by_a_day = refl
