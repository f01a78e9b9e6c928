-- Worked rows: to which items a command gives a sector or a moment, which spans it ends, when a task is due by the programme of a kind, and the book behind a reply.
use Rattle.std.proofs.Common.{refl, ◌≡◌, List, [], ◌∷◌, map, Some, None}
use Rattle.std.specs.Prelude.{codes}
use Rattle.mx_base.specs.declared.category.Category.TheVariants.{C}
use Rattle.mx_base.specs.declared.rows.rows.SpanRow.{SpanRow}
use Rattle.mx_book.specs.commands.Act.{Flown}
use Rattle.mx_book.specs.declared.commands.item.Item.TheVariants.{Airframe}
use Rattle.mx_book.specs.declared.verdict.Refusal.TheVariants.{UnknownAircraft}
use Rattle.mx_book.specs.declared.verdict.Reply.TheVariants.{Accepted, Already, Refused}
use Rattle.mx_book.proofs.Worked.{a1, abcd, aircraft_with, at, first_sector}
use Rattle.mx_book.proofs.WorkedDefects.{defer, extend, x1}
use Rattle.mx_book.proofs.WorkedFittings.{e2, engine, fit, remove}
use Rattle.mx_book.proofs.WorkedProgrammes.{annual, c172, first_four, hundred_hours, second_revision}
use Rattle.mx_registers.proofs.KeptProofs.WorkedKept.{flown, overhaul_of_e1, span_of_e1, span_of_e2}
use Rattle.mx_row_rules.specs.changes.Made.{Findings, nothing_found}
use Rattle.mx_apply.specs.Applies.{behind}
use Rattle.mx_apply.specs.Named.{numbers_ended}
use Rattle.mx_apply.specs.made.Found.{numbers_flown, numbers_given, numbers_removed}
use Rattle.mx_apply.specs.made.Releases.{due_by_kind, task_by_kind}

-- ── numbers ──

-- D-ABCD is entry 1; E1, entry 2, was fitted until 2024-03-01 at 09:30, and E2, entry 3, is from then on
abbrev both_spans : List SpanRow
both_spans = span_of_e1 ∷ span_of_e2 ∷ []

-- a sector behind the change, one before it, and one across it
flown_by : map (λ sector. numbers_flown 1 sector both_spans) (flown (at 19784 8 0) (at 19784 9 0) ∷ flown (at 19783 6 0) (at 19783 7 0) ∷ flown (at 19783 9 0) (at 19783 10 0) ∷ []) ≡ (1 ∷ 3 ∷ []) ∷ (1 ∷ 2 ∷ []) ∷ (1 ∷ []) ∷ []
flown_by = refl

-- E2 is removed from D-ABCD; a component that is fitted nowhere has no aircraft
removed_from : map (numbers_removed 3) ((span_of_e2 ∷ []) ∷ [] ∷ []) ≡ (3 ∷ 1 ∷ []) ∷ (3 ∷ []) ∷ []
removed_from = refl

-- the aircraft, the item or the defect is entry 1, and the component entry 3
abbrev found : List SpanRow → Findings
found spans = record nothing_found { number = 1; component = 3; spans = spans }

-- a sector, a fitting, a removal, a release, a deferral
given_by_five : map (λ act. numbers_given act (found (span_of_e2 ∷ []))) (Flown (flown (at 19784 8 0) (at 19784 9 0)) ∷ fit e2 abcd engine (at 19783 9 30) ∷ remove e2 (at 19787 10 0) ∷ overhaul_of_e1 ∷ defer abcd (at 19784 0 0) C ∷ [])
    ≡ (1 ∷ 3 ∷ []) ∷ (1 ∷ 3 ∷ []) ∷ (3 ∷ 1 ∷ []) ∷ (1 ∷ []) ∷ (1 ∷ []) ∷ []
given_by_five = refl

-- an aircraft that is added has no total before, and an extension gives no moment
given_by_others : map (λ act. numbers_given act (found (span_of_e2 ∷ []))) (aircraft_with abcd ∷ extend x1 19750 3 ∷ []) ≡ [] ∷ [] ∷ []
given_by_others = refl

-- a removal alone ends a span: that of E2 is entry 7
ended_by_each : map (λ act. numbers_ended act (found (span_of_e2 ∷ []))) (remove e2 (at 19787 10 0) ∷ fit e2 abcd engine (at 19783 9 30) ∷ Flown (flown (at 19784 8 0) (at 19784 9 0)) ∷ []) ≡ (7 ∷ []) ∷ [] ∷ [] ∷ []
ended_by_each = refl

-- ── tasks ──

-- of revision 1 and of revision 2, which lacks the inspection every 100 hours; of no kind, and of a kind without a programme
task_of_kind : map (λ book. task_by_kind book (Some c172) (codes "100H")) (first_four ∷ second_revision ∷ []) ≡ Some hundred_hours ∷ None ∷ []
task_of_kind = refl

other_tasks : map (λ kind. task_by_kind first_four kind (codes "ANNUAL")) (Some c172 ∷ None ∷ Some (codes "PA28") ∷ []) ≡ Some annual ∷ None ∷ None ∷ []
other_tasks = refl

-- 1,050 hours at first; a year behind 2023-06-01, day 19,509, on which the yearly inspection was done last; and never without a kind
due_of_kind : map (λ task. due_by_kind first_four (Some c172) (Airframe abcd) task) (codes "100H" ∷ codes "ANNUAL" ∷ codes "200H" ∷ [])
    ≡ Some (record { minutes = Some 63000; cycles = None; days = None }) ∷ Some (record { minutes = None; cycles = None; days = Some 19874 }) ∷ None ∷ []
due_of_kind = refl

due_without_kind : due_by_kind first_four None (Airframe abcd) (codes "ANNUAL") ≡ None
due_without_kind = refl

-- ── behind a reply ──

-- an entry that was accepted is the last
behind_replies : map (behind (a1 ∷ []) (first_sector 1)) (Accepted 2 ∷ Already 2 ∷ Refused UnknownAircraft ∷ []) ≡ (a1 ∷ first_sector 1 ∷ []) ∷ (a1 ∷ []) ∷ (a1 ∷ []) ∷ []
behind_replies = refl
