-- Worked logs: what their rows give, computed from the definitions.
use Rattle.std.proofs.Common.{refl, ◌≡◌, ℕ, List, [], ◌∷◌, ◌++◌, Ok, Err, Some, None, length, arith}
use Rattle.std.specs.Prelude.{codes, ⊤}
use Rattle.std.specs.Fmt.{digits}
use Rattle.csv.proofs.OnLiterals.{csv_on_literals}
use Rattle.csv.specs.Records.{field_at}
use Rattle.mx_book.specs.commands.Act.{Entry, Flown}
use Rattle.mx_intake.specs.Fault.{fault}
use Rattle.mx_intake.specs.Number.{number_of_digits}
use Rattle.mx_intake.specs.Sectors.{sector_rows, text_of_field, rows_if_few, rows_from}
use Rattle.mx_intake.proofs.RowsLemmas.{rows_if_few-many, rows_if_few-few}
use Rattle.mx_intake.proofs.Worked.{Gives, intake_on_literals}

-- what is unfolded to compute the rows of a log
unfoldable pub sectors_on_literals : ⊤
unfolding csv_on_literals field_at intake_on_literals text_of_field number_of_digits digits
sectors_on_literals = tt

abbrev header : List ℕ
header = codes "tail,page,line,off,on,cycles\n"

-- the sector of D-ABCD on a line of a page
abbrev flight : List ℕ → ℕ → ℕ → ℕ → ℕ → ℕ → Entry
flight doc page line off on cycles =
    record { doc = doc; act = Flown (record { tail = codes "D-ABCD"; page = page; line = line; off = off; on = on; cycles = cycles }) }

-- ── numbers ──

numbers : Gives number_of_digits (
    (codes "000012", Some 12)
    ∷ (codes "0000012", None)
    ∷ ([], None)
    ∷ (codes "+12", None) ∷ [])
unfolding number_of_digits
numbers = refl

-- ── whole texts ──

logs : Gives sector_rows (
    ((codes "tail,page,line,off,on,cycles\nD-ABCD,12,1,2024-03-01T08:00,2024-03-01T09:30,1\nD-ABCD,12,2,2024-03-01T10:00,2024-03-01T09:50,1\nD-ABCD,13,1,2024-03-02T08:00,2024-03-02T08:45,2\n", Ok (Ok (flight (codes "TL/D-ABCD/12/1") 12 1 28488000 28488090 1) ∷ Err (fault 65 2) ∷ Ok (flight (codes "TL/D-ABCD/13/1") 13 1 28489440 28489485 2) ∷ []))
    ∷ (codes "tail,page,line,off,on,cycles\n", Ok [])
    ∷ (codes "tail,page,line,off,on,cycles", Ok [])
    ∷ ([], Err (fault 66 0))
    ∷ (codes "D-ABCD,12,1,2024-03-01T08:00,2024-03-01T09:30,1\n", Err (fault 66 0))
    ∷ (codes "tail,page,line,off,on,cycles,\n", Err (fault 66 0))
    ∷ (codes "tail, page,line,off,on,cycles\n", Err (fault 66 0)) ∷ [])
    -- a byte order mark, quotes, and each end of a line
    ++ ((239 ∷ 187 ∷ 191 ∷ codes "\"tail\",page,line,off,on,cycles\r\n\r\n\"D-ABCD\",12,1,2024-03-01T08:00,2024-03-01T09:30,1\r\n\n", Ok (Ok (flight (codes "TL/D-ABCD/12/1") 12 1 28488000 28488090 1) ∷ [])) ∷ []))
unfolding sectors_on_literals
logs = refl

-- ── one row ──

logs_of_one_row : Gives sector_rows (
    ((header ++ codes "D-ABCD,000012,1,2024-03-01T08:00,2024-03-01T09:30,1\n", Ok (Ok (flight (codes "TL/D-ABCD/12/1") 12 1 28488000 28488090 1) ∷ []))
    ∷ (header ++ codes "D-ABCD,0000012,1,2024-03-01T08:00,2024-03-01T09:30,1\n", Ok (Err (fault 63 1) ∷ []))
    ∷ (header ++ codes "D-ABCD,12,1,2024-03-01T08:00,2024-03-01T09:30\n", Ok (Err (fault 68 1) ∷ [])) ∷ [])
    -- seven fields, of which none can be read
    ++ ((header ++ codes ",,,,,,\n", Ok (Err (fault 68 1) ∷ [])) ∷ [])
    -- a line of spaces is a record
    ++ ((header ++ codes "  \n", Ok (Err (fault 68 1) ∷ []))
    ∷ (header ++ 255 ∷ codes ",12,1,2024-03-01T08:00,2024-03-01T09:30,1\n", Ok (Err (fault 63 1) ∷ []))
    ∷ (header ++ codes "D-ABCD, 12,1,2024-03-01T08:00,2024-03-01T09:30,1\n", Ok (Err (fault 63 1) ∷ [])) ∷ [])
    -- a field that can't be read, before the shape
    ++ ((header ++ codes "D-ABCD,0,1,2024-03-01T08:00,2024-03-01T09:30,\n", Ok (Err (fault 63 1) ∷ []))
    ∷ (header ++ codes "D-ABCD,0,1,2024-03-01T08:00,2024-03-01T09:30,1\n", Ok (Err (fault 65 1) ∷ [])) ∷ []))
unfolding sectors_on_literals
logs_of_one_row = refl

-- ── limits ──

one_row_too_many : (rows : List (List (List ℕ))) → length rows ≡ 100001 → rows_if_few rows ≡ Err (fault 67 0)
one_row_too_many rows h = rows_if_few-many rows (omega (arith, h))

as_many_rows_as_are_taken : (rows : List (List (List ℕ))) → length rows ≡ 100000 → rows_if_few rows ≡ Ok (rows_from 1 rows)
as_many_rows_as_are_taken rows h = rows_if_few-few rows (omega (arith, h))
