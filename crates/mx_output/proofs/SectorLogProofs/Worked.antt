-- Worked imports, computed from the definitions: a log of three rows, of which the second is bad.
use Rattle.std.proofs.Common.{refl, ◌≡◌, ℕ, List, [], ◌∷◌, true, false, Result, Ok, Err}
use Rattle.std.specs.Prelude.{codes, map}
use Rattle.std.specs.Fmt.{digits}
use Rattle.mx_book.specs.commands.Act.{Entry, Flown}
use Rattle.mx_book.specs.declared.verdict.Refusal.TheVariants.{UnknownAircraft}
use Rattle.mx_book.specs.declared.verdict.Reply.TheVariants.{Accepted, Already, Refused}
use Rattle.mx_intake.specs.Fault.{fault}
use Rattle.mx_intake.specs.declared.fault.IntakeFault.{IntakeFault}
use Rattle.mx_output.specs.declared.sector_log.report.RowReply.TheVariants.{Entered, Bad}
use Rattle.mx_output.specs.sector_log.Rows.{good_rows, told}
use Rattle.mx_output.specs.sector_log.Text.{row_lines}
use Rattle.mx_output.specs.sector_log.Told.{is_bad, is_refused_row}

abbrev flight : ℕ → Entry
flight page = record { doc = codes "TL/D-ABCD"; act = Flown (record { tail = codes "D-ABCD"; page = page; line = 1; off = 0; on = 90; cycles = 1 }) }

abbrev three_rows : List (Result Entry IntakeFault)
three_rows = Ok (flight 12) ∷ Err (fault 65 2) ∷ Ok (flight 13) ∷ []

two_are_good : good_rows three_rows ≡ flight 12 ∷ flight 13 ∷ []
two_are_good = refl

each_is_told : told three_rows (Accepted 2 ∷ Accepted 3 ∷ []) ≡ Entered (Accepted 2) ∷ Bad (fault 65 2) ∷ Entered (Accepted 3) ∷ []
each_is_told = refl

-- the rows are told up to the first good one that has no reply
stopped_at_the_third : told three_rows (Accepted 2 ∷ []) ≡ Entered (Accepted 2) ∷ Bad (fault 65 2) ∷ []
stopped_at_the_third = refl

stopped_at_the_first : told three_rows [] ≡ []
stopped_at_the_first = refl

lines_of_three : row_lines (Entered (Accepted 2) ∷ Bad (fault 65 2) ∷ Entered (Already 3) ∷ Entered (Refused UnknownAircraft) ∷ []) ≡ codes "row 1 accepted 2\nrow 2 fault 65\nrow 3 already 3\nrow 4 refused 20\n"
unfolding digits
lines_of_three = refl

no_lines : row_lines [] ≡ []
no_lines = refl

-- a row that is bad was not refused, and one that was refused is not bad
bad_rows : map is_bad (Entered (Accepted 2) ∷ Entered (Refused UnknownAircraft) ∷ Bad (fault 65 3) ∷ []) ≡ false ∷ false ∷ true ∷ []
bad_rows = refl

refused_rows : map is_refused_row (Entered (Accepted 2) ∷ Entered (Refused UnknownAircraft) ∷ Bad (fault 65 3) ∷ []) ≡ false ∷ true ∷ false ∷ []
refused_rows = refl
