-- The text of a due list.
use Rattle.std.specs.Prelude.{ℕ, ℤ, List, [], ◌∷◌, ◌++◌, codes, length, Option, Some, None}
use Rattle.std.specs.Fmt.{signed_decimal}
use Rattle.std.specs.List.{flat_map}
use Rattle.mx_base.specs.Texts.{day_text, hours_text}
use Rattle.mx_base.specs.declared.amounts.Left.{Left}
use Rattle.mx_lists.specs.declared.due_row.DueList.{DueList}
use Rattle.mx_lists.specs.declared.due_row.DueRow.{DueRow}
use Rattle.mx_lists.specs.declared.due_row.DueRow.TheVariants.{Task as TaskRow, Defect as DefectRow}
use Rattle.mx_lists.specs.DueRow.{row_status}
use Rattle.mx_reports.specs.DefectText.{defect_words, until_line}
use Rattle.mx_reports.specs.Words.{spaced, status_word, use_words, end_line}

-- airframe, or part POSITION SERIAL
unfoldable pub place_words : Option (List ℕ × List ℕ) → List ℕ
place_words None = spaced (codes "airframe")
place_words (Some place) = spaced (codes "part") ++ (spaced place.0 ++ spaced place.1)

-- the hours that are left, or - where they have no due
unfoldable pub left_hours : Option ℤ → List ℕ
left_hours None = codes "-"
left_hours (Some left) = hours_text left

-- the cycles or the days that are left, or - where they have no due
unfoldable pub left_number : Option ℤ → List ℕ
left_number None = codes "-"
left_number (Some left) = signed_decimal left

-- h=H c=C d=D: what is left in each dimension
abbrev pub left_words : Left → List ℕ
left_words left = codes " h=" ++ (left_hours left.minutes ++ (codes " c=" ++ (left_number left.cycles ++ (codes " d=" ++ left_number left.days))))

-- the place, TASK, and what is left; defect, its words, and what is left until its last day
abbrev pub due_words : DueRow → List ℕ
due_words (TaskRow status place task left) = place_words place ++ (spaced task ++ (left_words left ++ 10 ∷ []))
due_words (DefectRow status doc letter reference last left) = spaced (codes "defect") ++ (defect_words doc letter reference ++ until_line last left)

-- STATUS, and what is due
abbrev pub row_line : DueRow → List ℕ
row_line row = status_word (row_status row) ++ due_words row

-- due TAIL DAY HOURS CYCLES
abbrev pub due_head : DueList → List ℕ
due_head l = codes "due" ++ (spaced l.tail ++ (spaced (day_text l.day) ++ (use_words l.life ++ 10 ∷ [])))

-- the line of the aircraft; a line for each row; end N, where N counts the rows
abbrev pub due_lines : DueList → List ℕ
due_lines l = due_head l ++ (flat_map row_line l.rows ++ end_line (length l.rows))
