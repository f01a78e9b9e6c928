-- Worked rows that were found: what they say of books in which components are replaced, a programme is revised, and defects are extended and rectified, counted by hand.
use Rattle.std.proofs.Common.{refl, ◌≡◌, ℕ, List, [], ◌∷◌, true, false, Some, None, filter, map, nat_eq, take}
use Rattle.std.specs.Prelude.{codes, reverse}
use Rattle.mx_book.specs.commands.Same.{same_text}
use Rattle.mx_book.specs.Defect.{defect}
use Rattle.mx_book.proofs.Worked.{at, used}
use Rattle.mx_book.proofs.WorkedDefects.{x2, x4, once_extended, once_rectified}
use Rattle.mx_book.proofs.WorkedFittings.{engine, propeller, replaced, without_engine}
use Rattle.mx_book.proofs.WorkedProgrammes.{c172, hundred_hours, second_revision}
use Rattle.mx_registers.specs.Registers.{aircraft_rows, deferral_rows, entry_rows, extension_rows, release_line_rows}
use Rattle.mx_base.specs.declared.rows.rows.AircraftRow.{AircraftRow}
use Rattle.mx_base.specs.declared.rows.rows.DeferralRow.{DeferralRow}
use Rattle.mx_base.specs.declared.rows.rows.EntryRow.{EntryRow}
use Rattle.mx_base.specs.declared.rows.rows.ExtensionRow.{ExtensionRow}
use Rattle.mx_base.specs.declared.rows.rows.TaskRow.{TaskRow}
use Rattle.mx_base.specs.declared.rows.rows.TotalRow.{TotalRow}
use Rattle.mx_registers.specs.kept.Spans.{span_rows}
use Rattle.mx_registers.specs.kept.Totals.{total_rows}
use Rattle.mx_registers.proofs.KeptProofs.WorkedKept.{in_service}
use Rattle.mx_row_rules.specs.found.Defects.{defect_in, extension_in, is_rectified_in, rectifies}
use Rattle.mx_row_rules.specs.found.Lives.{clock_in, life_in}
use Rattle.mx_row_rules.specs.found.Names.{deferral_number, entry_number, last_number}
use Rattle.mx_row_rules.specs.found.Programmes.{is_retired_in, programme_number, programmes_of, revision_after, task_in, tasks_with}
use Rattle.mx_row_rules.specs.found.Spans.{is_open_at, is_open_of, is_taken_in, span_aircraft}

-- ── entries ──

-- the last of seven entries has the number 7; where there is none there are none
counted : map last_number (take 1 (reverse (entry_rows replaced)) ∷ [] ∷ []) ≡ 7 ∷ 0 ∷ []
counted = refl

abbrev with_document : List ℕ → List EntryRow
with_document doc = filter (λ (row : EntryRow). same_text row.doc doc) (entry_rows once_rectified)

-- X2 is the document of entry 3, A1 of the first, and X4 of none; the first deferred no defect
by_document : map (λ doc. entry_number (with_document doc)) (x2 ∷ codes "A1" ∷ x4 ∷ []) ≡ Some 3 ∷ Some 1 ∷ None ∷ []
by_document = refl

deferred_by_document : map (λ doc. deferral_number (with_document doc)) (x2 ∷ codes "A1" ∷ x4 ∷ []) ≡ Some 3 ∷ None ∷ None ∷ []
deferred_by_document = refl

-- ── spans ──

-- E1 is entry 2 and was removed; E2 is entry 3, and fitted to the aircraft of entry 1
fitted_to : map (λ n. span_aircraft (filter (is_open_of n) (span_rows replaced))) (2 ∷ 3 ∷ []) ≡ None ∷ Some 1 ∷ []
fitted_to = refl

-- the position is taken by E2, whose removal leaves it free, and the other position never was
taken : map (λ book. is_taken_in engine (filter (is_open_at 1) (span_rows book))) (replaced ∷ without_engine ∷ []) ≡ true ∷ false ∷ []
taken = refl

other_free : is_taken_in propeller (filter (is_open_at 1) (span_rows replaced)) ≡ false
other_free = refl

-- ── totals ──

abbrev totals_of : ℕ → List TotalRow
totals_of n = filter (λ (row : TotalRow). nat_eq row.item n) (total_rows in_service)

-- E1 flew 90 minutes and was removed at the landing; entry 4 added no item, so its total is missing
clocks : map (λ n. clock_in (totals_of n)) (2 ∷ 4 ∷ []) ≡ Some (at 19783 9 30) ∷ None ∷ []
clocks = refl

lives : map (λ n. life_in (totals_of n)) (2 ∷ 4 ∷ []) ≡ Some (used 1090 101) ∷ None ∷ []
lives = refl

-- ── programmes ──

-- revision 2 is entry 5, the last of its kind; another kind has none
in_force : map (λ kind. programme_number (programmes_of kind second_revision)) (c172 ∷ codes "PA28" ∷ []) ≡ Some 5 ∷ None ∷ []
in_force = refl

next : map (λ kind. revision_after (programmes_of kind second_revision)) (c172 ∷ codes "PA28" ∷ []) ≡ 3 ∷ 1 ∷ []
next = refl

-- revision 1, entry 2, had the inspection every 100 hours, and revision 2 has not
tasks : map (λ n. task_in (tasks_with n second_revision) (codes "100H")) (2 ∷ 5 ∷ []) ≡ Some hundred_hours ∷ None ∷ []
tasks = refl

-- ── a task that retires a part ──

-- a disc of the part DISC retires at 100 cycles, whatever the minutes
abbrev disc_row : TaskRow
disc_row = record {
  seq = 1;
  line = 1;
  id = codes "LIMIT";
  part = Some (codes "DISC");
  retire = true;
  first = record { minutes = None; cycles = Some 100; days = None };
  repeat = record { minutes = None; cycles = None; days = None };
  tolerance = record { minutes = 0; cycles = 0; days = 0 };
}

-- with 99 cycles one is left, with 100 none
retired_at : map (λ cycles. is_retired_in (Some (codes "DISC")) 10957 (used 5000 cycles) 19784 (disc_row ∷ [])) (99 ∷ 100 ∷ 101 ∷ []) ≡ false ∷ true ∷ true ∷ []
retired_at = refl

-- one that retires 365 days behind its birth on 2000-01-01 has a day left on day 11,321
retired_on : map (λ day. is_retired_in (Some (codes "DISC")) 10957 (used 0 0) day (record disc_row { first = record { minutes = None; cycles = None; days = Some 365 } } ∷ [])) (11321 ∷ 11322 ∷ []) ≡ false ∷ true ∷ []
retired_on = refl

-- another part is not retired, nor an airframe
retired_other : map (λ part. is_retired_in part 10957 (used 5000 100) 19784 (disc_row ∷ [])) (Some (codes "FAN") ∷ None ∷ []) ≡ false ∷ false ∷ []
retired_other = refl

-- ── defects ──

abbrev deferral_of_x2 : List DeferralRow
deferral_of_x2 = filter (λ (row : DeferralRow). nat_eq row.seq 3) (deferral_rows once_rectified)

-- its two rows say X2, and without the row of its aircraft there is no defect to tell
two_rows : defect_in x2 deferral_of_x2 (filter (λ (row : AircraftRow). nat_eq row.seq 1) (aircraft_rows once_rectified)) ≡ defect once_rectified x2
two_rows = refl

dangling : defect_in x2 deferral_of_x2 [] ≡ None
dangling = refl

-- X2, entry 3, was rectified, and X1 and X3 were not
rectified : map (λ n. is_rectified_in (filter (rectifies n) (release_line_rows once_rectified))) (2 ∷ 3 ∷ 4 ∷ []) ≡ false ∷ true ∷ false ∷ []
rectified = refl

-- X2 was extended by 3 days on 2024-01-28, and X1 was not
extended : map (λ n. extension_in x2 (filter (λ (row : ExtensionRow). nat_eq row.defect n) (extension_rows once_extended))) (2 ∷ 3 ∷ []) ≡ None ∷ Some (record { defect = x2; day = 19750; days = 3 }) ∷ []
extended = refl
