-- The text of limits.
use Rattle.std.specs.Prelude.{ℕ, List, [], ◌∷◌, ◌++◌, codes, length}
use Rattle.std.specs.Fmt.{decimal}
use Rattle.std.specs.List.{flat_map}
use Rattle.mx_base.specs.Texts.{day_text}
use Rattle.mx_lists.specs.declared.limit_list.LimitList.{LimitList}
use Rattle.mx_lists.specs.declared.limit_list.LimitRow.{LimitRow}
use Rattle.mx_reports.specs.DefectText.{defect_words, until_line}
use Rattle.mx_reports.specs.Words.{spaced, status_word, end_line}

-- found=DAY ext=N: the day on which a defect was found, and the days by which its interval was extended
unfoldable pub found_words : ℕ → ℕ → List ℕ
found_words found extension = codes " found=" ++ (day_text found ++ (codes " ext=" ++ decimal extension))

-- the words of the defect, and what is left until its last day
abbrev pub limit_words : LimitRow → List ℕ
limit_words r = defect_words r.doc r.letter r.reference ++ (found_words r.found r.extension ++ until_line r.last r.left)

-- STATUS, and those
abbrev pub limit_line : LimitRow → List ℕ
limit_line r = status_word r.status ++ limit_words r

-- limits TAIL DAY
abbrev pub limits_head : LimitList → List ℕ
limits_head l = codes "limits" ++ (spaced l.tail ++ (spaced (day_text l.day) ++ 10 ∷ []))

-- the line of the aircraft; a line for each row; end N, where N counts the rows
abbrev pub limit_lines : LimitList → List ℕ
limit_lines l = limits_head l ++ (flat_map limit_line l.rows ++ end_line (length l.rows))
