-- Worked examples of the last days of deferred defects: in the list of limits, and in the due list.
use Rattle.std.proofs.Common.{refl, ◌≡◌, ℕ, List, [], ◌∷◌, ◌++◌, true, Option, Some, None}
use Rattle.std.specs.Prelude.{codes, map, ℤ, pos, neg_ℤ}
use Rattle.std.specs.Option.{option_map}
use Rattle.mx_base.specs.declared.amounts.Status.{Status}
use Rattle.mx_base.specs.declared.amounts.Status.TheVariants as statuses
use Rattle.mx_book.specs.commands.Act.{Entry}
use Rattle.mx_base.specs.declared.category.Category.TheVariants.{A, B, D}
use Rattle.mx_book.specs.declared.commands.programme.Task.{Task}
use Rattle.mx_book.specs.declared.commands.release.Place.TheVariants.{Aircraft}
use Rattle.mx_book.specs.declared.verdict.Refusal.TheVariants.{ExtensionTooLong}
use Rattle.mx_book.specs.declared.verdict.Verdict.TheVariants.{New, Refused}
use Rattle.mx_book.specs.Defect.{defect, last_permitted, open_defects}
use Rattle.mx_book.specs.Judge.{judge}
use Rattle.mx_book.specs.Book.{is_book}
use Rattle.mx_book.proofs.Worked.{at, used, logged}
use Rattle.mx_book.proofs.WorkedFittings.{efgh, second_aircraft}
use Rattle.mx_book.proofs.WorkedProgrammes.{c172, minutes_alone, hundred_hours, load}
use Rattle.mx_book.proofs.WorkedDefects.{old, x1, x2, x3, x4, defer, extend, rectify, three_deferred, once_extended, once_rectified, beside_another}
use Rattle.mx_lists.specs.declared.due_row.DueRow.{DueRow}
use Rattle.mx_lists.specs.declared.due_row.DueRow.TheVariants.{Defect as DefectRow}
use Rattle.mx_lists.specs.declared.limit_list.LimitRow.{LimitRow}
use Rattle.mx_lists.specs.LimitList.{limit_rows, limits}
use Rattle.mx_lists.specs.DueList.{due_rows, due_list}
use Rattle.mx_lists.proofs.WorkedDues.{minutes_left, airframe_row}

-- the last days of some defects
abbrev last_days : List Entry → List (List ℕ) → List (Option ℕ)
last_days book docs = map (λ doc. option_map (last_permitted book) (defect book doc)) docs

-- the documents of the open defects of an aircraft
abbrev open_documents : List Entry → List ℕ → List (List ℕ)
open_documents book tail = map (λ d. d.doc) (open_defects book tail)

-- the documents of the limits of an aircraft on a day
abbrev limit_documents : List Entry → List ℕ → ℕ → List (List ℕ)
limit_documents book tail day = map (λ row. row.doc) (limit_rows book tail day)

abbrev limit : Status → List ℕ → ℕ → ℕ → ℕ → ℕ → ℤ → LimitRow
limit status doc letter found extension last left = record { status = status; doc = doc; letter = letter; reference = codes "21-31-01"; found = found; extension = extension; last = pos last; left = left }

abbrev defect_due : Status → List ℕ → ℕ → ℕ → ℤ → DueRow
defect_due status doc letter last left = DefectRow status doc letter (codes "21-31-01") (pos last) left

-- ── last days ──

-- 2024-04-29 is 120 days after X1 was found, 2024-01-29 is 3 after X2, 2024-03-01 is 10 after X3, over a 29th of February
last_days_of_three : last_days three_deferred (x1 ∷ x2 ∷ x3 ∷ x4 ∷ []) ≡ Some 19842 ∷ Some 19751 ∷ Some 19783 ∷ None ∷ []
last_days_of_three = refl

-- the extension until 2024-02-01 is of X2 alone
last_days_once_extended : last_days once_extended (x1 ∷ x2 ∷ x3 ∷ []) ≡ Some 19842 ∷ Some 19754 ∷ Some 19783 ∷ []
last_days_once_extended = refl

-- the interval counts from the day, whatever the minute: found at the first and at the last of a day
last_days_of_a_day : map (λ minute. last_days (logged x4 (defer old minute B) ∷ []) (x4 ∷ [])) (at 19773 0 0 ∷ at 19773 23 59 ∷ at 19774 0 0 ∷ [])
    ≡ (Some 19776 ∷ []) ∷ (Some 19776 ∷ []) ∷ (Some 19777 ∷ []) ∷ []
last_days_of_a_day = refl

-- category A has the days that its item states
last_days_stated : map (λ days. last_days (logged x4 (defer old (at 19773 12 0) (A days)) ∷ []) (x4 ∷ [])) (1 ∷ 5 ∷ 365 ∷ [])
    ≡ (Some 19774 ∷ []) ∷ (Some 19778 ∷ []) ∷ (Some 20138 ∷ []) ∷ []
last_days_stated = refl

-- ── limits ──

-- on 2024-01-29, day 19,751, the last one of X2
limits_of_three : limit_rows three_deferred old 19751
    ≡ limit statuses.Due x2 66 19748 0 19751 (pos 0) ∷ limit statuses.Ok x3 67 19773 0 19783 (pos 32) ∷ limit statuses.Ok x1 68 19722 0 19842 (pos 91) ∷ []
limits_of_three = refl

list_of_three : limits three_deferred old 19751 ≡ Some (record { tail = old; day = 19751; rows = limit_rows three_deferred old 19751 })
list_of_three = refl

-- the day before, on it, and the day after
abbrev x2_alone : List Entry
x2_alone = three_deferred ++ logged (codes "WO1") (rectify (Aircraft old) (at 19773 12 0) (x1 ∷ x3 ∷ [])) ∷ []

statuses_of_x2 : map (limit_rows x2_alone old) (19750 ∷ 19751 ∷ 19752 ∷ [])
    ≡ (limit statuses.Ok x2 66 19748 0 19751 (pos 1) ∷ []) ∷ (limit statuses.Due x2 66 19748 0 19751 (pos 0) ∷ []) ∷ (limit statuses.Overdue x2 66 19748 0 19751 (neg_ℤ (pos 1)) ∷ []) ∷ []
statuses_of_x2 = refl

-- with its extension X2 has two days more on 2024-01-30
limits_once_extended : limit_rows once_extended old 19752
    ≡ limit statuses.Ok x2 66 19748 3 19754 (pos 2) ∷ limit statuses.Ok x3 67 19773 0 19783 (pos 31) ∷ limit statuses.Ok x1 68 19722 0 19842 (pos 90) ∷ []
limits_once_extended = refl

-- what was rectified is not listed, nor what is of another aircraft
limits_once_rectified : limit_documents once_rectified old 19775 ≡ x3 ∷ x1 ∷ []
limits_once_rectified = refl

open_once_rectified : open_documents once_rectified old ≡ x1 ∷ x3 ∷ []
open_once_rectified = refl

limits_of_each : map (λ tail. limit_documents beside_another tail 19775) (old ∷ efgh ∷ []) ≡ (x2 ∷ x3 ∷ x1 ∷ []) ∷ (codes "Z1" ∷ []) ∷ []
limits_of_each = refl

limits_of_none : map (λ tail. limits beside_another tail 19775) (codes "D-NONE" ∷ []) ≡ None ∷ []
limits_of_none = refl

limits_of_an_aircraft_without_defects : limits (three_deferred ++ second_aircraft ∷ []) efgh 19775 ≡ Some (record { tail = efgh; day = 19775; rows = [] })
limits_of_an_aircraft_without_defects = refl

-- X4 of category B was found on 2024-02-27, day 19,780, and has the last day of X3, whose entry is before it
equal_last_days : limit_rows (three_deferred ++ logged x4 (defer old (at 19780 0 0) B) ∷ []) old 19780
    ≡ limit statuses.Overdue x2 66 19748 0 19751 (neg_ℤ (pos 29)) ∷ limit statuses.Ok x3 67 19773 0 19783 (pos 3)
    ∷ limit statuses.Ok x4 66 19780 0 19783 (pos 3) ∷ limit statuses.Ok x1 68 19722 0 19842 (pos 62) ∷ []
equal_last_days = refl

-- and so has one of category A, with 63 days from 2023-12-29 on, whose entry is before that of X3
equal_last_days_in_order : limit_documents (logged x4 (defer old (at 19720 0 0) (A 63)) ∷ three_deferred) old 19780 ≡ x2 ∷ x4 ∷ x3 ∷ x1 ∷ []
equal_last_days_in_order = refl

-- ── the end of the calendar ──

-- found on 2199-12-30, day 84,004: its last day is 119 days past the last of the calendar
abbrev at_the_end : List Entry
at_the_end = three_deferred ++ logged x4 (defer old (at 84004 12 0) D) ∷ []

at_the_end-book : is_book at_the_end ≡ true
at_the_end-book = refl

limits_at_the_end : limit_rows at_the_end old 84005
    ≡ limit statuses.Overdue x2 66 19748 0 19751 (neg_ℤ (pos 64254)) ∷ limit statuses.Overdue x3 67 19773 0 19783 (neg_ℤ (pos 64222))
    ∷ limit statuses.Overdue x1 68 19722 0 19842 (neg_ℤ (pos 64163)) ∷ limit statuses.Ok x4 68 84004 0 84124 (pos 119) ∷ []
limits_at_the_end = refl

extended_at_the_end : map (λ days. judge at_the_end (logged (codes "Y1") (extend x4 84005 days))) (120 ∷ 121 ∷ []) ≡ New ∷ Refused (ExtensionTooLong 120) ∷ []
extended_at_the_end = refl

-- ── due lists ──

-- the defects in the order of their entries, of those that stand alike
dues_of_three : due_list three_deferred old 19751 ≡ Some (record {
  tail = old;
  day = 19751;
  life = used 60000 800;
  rows = defect_due statuses.Due x2 66 19751 (pos 0) ∷ defect_due statuses.Ok x1 68 19842 (pos 91) ∷ defect_due statuses.Ok x3 67 19783 (pos 32) ∷ [];
})
dues_of_three = refl

-- the inspection is due first at a life of the airframe, which has 60,000 minutes
abbrev hundred_hours_from : ℕ → Task
hundred_hours_from minutes = record hundred_hours { first = minutes_alone minutes }

-- behind the tasks that stand alike, and before those that stand better
dues_beside_a_task : map (λ first. due_rows (three_deferred ++ logged (codes "P1") (load c172 1 (hundred_hours_from first ∷ [])) ∷ []) old c172 19752) (60000 ∷ 63000 ∷ [])
    ≡ (defect_due statuses.Overdue x2 66 19751 (neg_ℤ (pos 1)) ∷ airframe_row statuses.Due (codes "100H") (minutes_left (pos 0)) ∷ defect_due statuses.Ok x1 68 19842 (pos 90) ∷ defect_due statuses.Ok x3 67 19783 (pos 31) ∷ [])
    ∷ (defect_due statuses.Overdue x2 66 19751 (neg_ℤ (pos 1)) ∷ airframe_row statuses.Ok (codes "100H") (minutes_left (pos 3000)) ∷ defect_due statuses.Ok x1 68 19842 (pos 90) ∷ defect_due statuses.Ok x3 67 19783 (pos 31) ∷ []) ∷ []
dues_beside_a_task = refl

dues_once_extended : due_rows once_extended old c172 19752
    ≡ defect_due statuses.Ok x1 68 19842 (pos 90) ∷ defect_due statuses.Ok x2 66 19754 (pos 2) ∷ defect_due statuses.Ok x3 67 19783 (pos 31) ∷ []
dues_once_extended = refl

dues_once_rectified : due_rows once_rectified old c172 19775 ≡ defect_due statuses.Ok x1 68 19842 (pos 67) ∷ defect_due statuses.Ok x3 67 19783 (pos 8) ∷ []
dues_once_rectified = refl

dues_of_another : due_rows beside_another efgh c172 19775 ≡ defect_due statuses.Ok (codes "Z1") 67 19783 (pos 8) ∷ []
dues_of_another = refl
