-- Worked texts of limits, computed from the definitions.
use Rattle.std.proofs.Common.{refl, ◌≡◌, List, [], ◌∷◌}
use Rattle.std.specs.Prelude.{codes, pos, negsuc, length}
use Rattle.std.specs.Fmt.{digits}
use Rattle.mx_base.specs.Calendar.{date_of}
use Rattle.mx_base.specs.Texts.{day_text}
use Rattle.mx_base.specs.declared.amounts.Status.TheVariants as statuses
use Rattle.mx_lists.specs.declared.limit_list.LimitList.{LimitList}
use Rattle.mx_lists.specs.declared.limit_list.LimitRow.{LimitRow}
use Rattle.mx_reports.specs.DefectText.{defect_words, until_line}
use Rattle.mx_reports.specs.LimitText.{found_words, limit_line, limit_lines}
use Rattle.mx_reports.specs.Words.{status_word}

-- the limits of 2024-01-29 with these rows
abbrev listed : List LimitRow → LimitList
listed rows = record { tail = codes "D-OLD1"; day = 19751; rows = rows }

-- a defect of category D found on 2023-12-31, one of category B found on 2024-01-26, and one of category C found on 2024-02-20
abbrev of_category_d : LimitRow
of_category_d = record { status = statuses.Ok; doc = codes "X1"; letter = 68; reference = codes "21-31-01"; found = 19722; extension = 0; last = pos 19842; left = pos 91 }

abbrev of_category_b : LimitRow
of_category_b = record { status = statuses.Due; doc = codes "X2"; letter = 66; reference = codes "21-31-01"; found = 19748; extension = 0; last = pos 19751; left = pos 0 }

abbrev of_category_c : LimitRow
of_category_c = record { status = statuses.Ok; doc = codes "X3"; letter = 67; reference = codes "21-31-01"; found = 19773; extension = 0; last = pos 19783; left = pos 32 }

of_three_defects : limit_lines (listed (of_category_b ∷ of_category_c ∷ of_category_d ∷ []))
    ≡ codes "limits D-OLD1 2024-01-29\nDUE X2 B 21-31-01 found=2024-01-26 ext=0 last=2024-01-29 left=0\nOK X3 C 21-31-01 found=2024-02-20 ext=0 last=2024-03-01 left=32\nOK X1 D 21-31-01 found=2023-12-31 ext=0 last=2024-04-29 left=91\nend 3\n"
unfolding digits day_text date_of status_word defect_words found_words until_line lib.Utf8.encode
of_three_defects = refl

of_so_many_bytes : length (limit_lines (listed (of_category_b ∷ of_category_c ∷ of_category_d ∷ []))) ≡ 223
unfolding digits day_text date_of status_word defect_words found_words until_line lib.Utf8.encode
of_so_many_bytes = refl

without_rows : limit_lines (listed []) ≡ codes "limits D-OLD1 2024-01-29\nend 0\n"
unfolding digits day_text date_of
without_rows = refl

-- an extension by three days puts the last day off by as many
extended : limit_line (record { status = statuses.Ok; doc = codes "X2"; letter = 66; reference = codes "21-31-01"; found = 19748; extension = 3; last = pos 19754; left = pos 3 })
    ≡ codes "OK X2 B 21-31-01 found=2024-01-26 ext=3 last=2024-02-01 left=3\n"
unfolding digits day_text date_of status_word defect_words found_words until_line lib.Utf8.encode
extended = refl

-- the last day is passed by one: an item whose days are stated
passed : limit_line (record { status = statuses.Overdue; doc = codes "X4"; letter = 65; reference = codes "33-40-01"; found = 19745; extension = 0; last = pos 19750; left = negsuc 0 })
    ≡ codes "OVERDUE X4 A 33-40-01 found=2024-01-23 ext=0 last=2024-01-28 left=-1\n"
unfolding digits day_text date_of status_word defect_words found_words until_line lib.Utf8.encode
passed = refl

-- the last day of the calendar, and the day after it
on_the_last_day : until_line (pos 84005) (pos 1) ≡ codes " last=2199-12-31 left=1\n"
unfolding digits day_text date_of until_line
on_the_last_day = refl

past_the_calendar : until_line (pos 84006) (pos 2) ≡ codes " last=later left=2\n"
unfolding digits until_line
past_the_calendar = refl
