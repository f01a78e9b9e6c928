-- The text of an import.
use Rattle.std.specs.Prelude.{ℕ, ◌+◌, List, [], ◌∷◌, ◌++◌, codes}
use Rattle.std.specs.Fmt.{decimal}
use Rattle.mx_reports.specs.ReplyText.{reply_line}
use Rattle.mx_reports.specs.Words.{spaced}
use Rattle.mx_output.specs.declared.sector_log.report.RowReply.{RowReply}
use Rattle.mx_output.specs.declared.sector_log.report.RowReply.TheVariants.{Entered, Bad}

-- row N
abbrev pub row_words : ℕ → List ℕ
row_words n = codes "row" ++ spaced (decimal n)

-- the reply to a row, or fault NUMBER
abbrev pub told_line : RowReply → List ℕ
told_line (Entered reply) = reply_line reply
told_line (Bad fault) = codes "fault" ++ (spaced (decimal fault.number) ++ 10 ∷ [])

-- row N, and what it is told
abbrev pub row_line : ℕ → RowReply → List ℕ
row_line n row = row_words n ++ spaced (told_line row)

-- a line for each row, the first of which is row n
abbrev pub row_lines_from : ℕ → List RowReply → List ℕ
row_lines_from n [] = []
row_lines_from n (row ∷ rows) = row_line n row ++ row_lines_from (n + 1) rows

-- a line for each row
abbrev pub row_lines : List RowReply → List ℕ
row_lines rows = row_lines_from 1 rows
