-- Worked dues: of an inspection, of an overhaul, of a disc that is retired, computed from the definitions.
use Rattle.std.proofs.Common.{refl, ◌≡◌, ℕ, [], ◌∷◌, Bool, true, false, Option, Some, None, map}
use Rattle.std.specs.Prelude.{codes, pos, neg_ℤ}
use Rattle.mx_base.specs.declared.amounts.Use.{Use}
use Rattle.mx_base.specs.declared.amounts.Limit.{Limit}
use Rattle.mx_base.specs.declared.amounts.Status.TheVariants.{Ok, Due, Overdue}
use Rattle.mx_book.specs.declared.commands.programme.Task.{Task}
use Rattle.mx_book.specs.declared.commands.programme.Applies.TheVariants as applies
use Rattle.mx_book.specs.due.Due.{due_after, base_done}
use Rattle.mx_book.specs.due.Left.{left_of, is_used_up}
use Rattle.mx_book.specs.due.Reach.{least_up_to, reaches, reaches_some}
use Rattle.mx_book.specs.due.Status.{status_of}

abbrev minutes_alone : ℕ → Limit
minutes_alone n = record { minutes = Some n; cycles = None; days = None }

abbrev days_alone : ℕ → Limit
days_alone n = record { minutes = None; cycles = None; days = Some n }

abbrev cycles_alone : ℕ → Limit
cycles_alone n = record { minutes = None; cycles = Some n; days = None }

abbrev used : ℕ → ℕ → Use
used minutes cycles = record { minutes = minutes; cycles = cycles }

-- the inspection every 100 hours, first at 1,050 hours, that may be done so many minutes late
abbrev hundred_hours : ℕ → Task
hundred_hours late = record { id = codes "100H"; applies = applies.Airframe; first = minutes_alone 63000; repeat = Some (minutes_alone 6000); tolerance = record { minutes = late; cycles = 0; days = 0 }; retire = false }

-- the yearly inspection, which may be done 30 days late
abbrev annual : Task
annual = record { id = codes "ANNUAL"; applies = applies.Airframe; first = days_alone 365; repeat = Some (days_alone 365); tolerance = record { minutes = 0; cycles = 0; days = 30 }; retire = false }

-- a disc that is retired at 100 cycles
abbrev disc : Task
disc = record { id = codes "DISC"; applies = applies.Part (codes "LLP1"); first = cycles_alone 100; repeat = None; tolerance = record { minutes = 0; cycles = 0; days = 0 }; retire = true }

-- a life of 2,000 hours, accomplished once
abbrev overhaul : Bool → Option Limit → Task
overhaul retire repeat = record { id = codes "OVH"; applies = applies.Part (codes "IO360"); first = minutes_alone 120000; repeat = repeat; tolerance = record { minutes = 0; cycles = 0; days = 0 }; retire = retire }

-- an inspection that is due by hours, cycles and days, and repeated by each
abbrev thorough : Task
thorough = record { id = codes "INSP"; applies = applies.Airframe; first = record { minutes = Some 63000; cycles = Some 900; days = Some 365 }; repeat = Some (record { minutes = Some 6000; cycles = Some 500; days = Some 730 }); tolerance = record { minutes = 0; cycles = 0; days = 0 }; retire = false }

-- ── dues ──

-- 2000-01-01 is day 10,957
first_of_the_inspection : due_after None 10957 (hundred_hours 0) ≡ Some (minutes_alone 63000)
first_of_the_inspection = refl

first_of_the_year : due_after None 10957 annual ≡ Some (days_alone 11322)
first_of_the_year = refl

-- last done on 2023-06-01, day 19,509
a_year_later : due_after (Some (record { minutes = 59000; cycles = 780; day = 19509 })) 10957 annual ≡ Some (days_alone 19874)
a_year_later = refl

-- each dimension is counted from that of the base
next_in_each_dimension : due_after (Some (record { minutes = 59000; cycles = 780; day = 19509 })) 10957 thorough ≡ Some (record { minutes = Some 65000; cycles = Some 1280; days = Some 20239 })
next_in_each_dimension = refl

-- done late at 63,400 minutes, it is due again 100 hours from where it was due; done early at 62,000, from there
late_does_not_put_off : base_done (used 63400 850) 19783 (due_after None 10957 (hundred_hours 0)) ≡ record { minutes = 63000; cycles = 850; day = 19783 }
late_does_not_put_off = refl

next_after_late : due_after (Some (base_done (used 63400 850) 19783 (due_after None 10957 (hundred_hours 0)))) 10957 (hundred_hours 0) ≡ Some (minutes_alone 69000)
next_after_late = refl

next_after_early : due_after (Some (base_done (used 62000 850) 19783 (due_after None 10957 (hundred_hours 0)))) 10957 (hundred_hours 0) ≡ Some (minutes_alone 68000)
next_after_early = refl

-- an accomplishment that was not due is its own base
done_without_a_due : base_done (used 1090 101) 19784 None ≡ record { minutes = 1090; cycles = 101; day = 19784 }
done_without_a_due = refl

-- late in each dimension, its base is where it was due in each: 365 days after the birth is day 11,322
late_in_each_dimension : base_done (used 64000 910) 11330 (due_after None 10957 thorough) ≡ record { minutes = 63000; cycles = 900; day = 11322 }
late_in_each_dimension = refl

-- work that is done once is not due again; what is retired stays due at its first limit
done_once : due_after (Some (record { minutes = 1090; cycles = 101; day = 19784 })) 14610 (overhaul false None) ≡ None
done_once = refl

retired_after_all : due_after (Some (record { minutes = 1090; cycles = 101; day = 19784 })) 14610 (overhaul true None) ≡ Some (minutes_alone 120000)
retired_after_all = refl

-- ── what is left ──

left_at_birth : left_of (minutes_alone 63000) (used 60090 801) 19792 ≡ record { minutes = Some (pos 2910); cycles = None; days = None }
left_at_birth = refl

left_past_the_due : left_of (days_alone 19874) (used 60090 801) 19884 ≡ record { minutes = None; cycles = None; days = Some (neg_ℤ (pos 10)) }
left_past_the_due = refl

-- a disc of 99 cycles has one left, one of 100 none
used_up_at_its_limit : map (λ cycles. is_used_up (left_of (cycles_alone 100) (used 0 cycles) 19723)) (99 ∷ 100 ∷ 101 ∷ []) ≡ false ∷ true ∷ true ∷ []
used_up_at_its_limit = refl

-- the day alone is enough
used_up_by_days : map (λ day. is_used_up (left_of (record { minutes = Some 63000; cycles = Some 900; days = Some 19874 }) (used 0 0) day)) (19873 ∷ 19874 ∷ []) ≡ false ∷ true ∷ []
used_up_by_days = refl

-- ── statuses ──

-- 10 hours are tolerated
status_of_the_inspection : map (λ minutes. status_of (left_of (minutes_alone 63000) (used minutes 0) 0) (record { minutes = 600; cycles = 0; days = 0 })) (62999 ∷ 63000 ∷ 63600 ∷ 63601 ∷ [])
    ≡ Ok ∷ Due ∷ Due ∷ Overdue ∷ []
status_of_the_inspection = refl

-- without tolerance it is overdue once nothing is left
status_without_tolerance : map (λ minutes. status_of (left_of (minutes_alone 63000) (used minutes 0) 0) (record { minutes = 0; cycles = 600; days = 600 })) (62999 ∷ 63000 ∷ 63001 ∷ [])
    ≡ Ok ∷ Due ∷ Overdue ∷ []
status_without_tolerance = refl

-- the worst dimension decides, whichever it is
worst_of_three : map (λ (life : Use). status_of (left_of (record { minutes = Some 100; cycles = Some 10; days = Some 20000 }) life 19999) (record { minutes = 5; cycles = 1; days = 0 }))
    (used 99 9 ∷ used 100 9 ∷ used 99 10 ∷ used 106 10 ∷ used 99 12 ∷ []) ≡ Ok ∷ Due ∷ Due ∷ Overdue ∷ Overdue ∷ []
worst_of_three = refl

-- five minutes late and one cycle late, each within the tolerance of its own dimension
tolerated_in_each : map (λ (life : Use). status_of (left_of (record { minutes = Some 100; cycles = Some 10; days = Some 20000 }) life 19999) (record { minutes = 5; cycles = 1; days = 0 }))
    (used 105 9 ∷ used 99 11 ∷ []) ≡ Due ∷ Due ∷ []
tolerated_in_each = refl

worst_by_the_day : map (status_of (left_of (record { minutes = Some 100; cycles = Some 10; days = Some 20000 }) (used 99 9) 20001)) (record { minutes = 0; cycles = 0; days = 0 } ∷ record { minutes = 0; cycles = 0; days = 1 } ∷ []) ≡ Overdue ∷ Due ∷ []
worst_by_the_day = refl

-- nothing due, nothing to be late with
no_due_at_all : status_of (record { minutes = None; cycles = None; days = None }) (record { minutes = 0; cycles = 0; days = 0 }) ≡ Ok
no_due_at_all = refl

-- ── days until a due is reached ──

-- 48 hours and 30 minutes at two hours a day: 24 days leave 30 minutes, so it is the 25th
reached_in_the_rest_of_a_day : least_up_to 30 (reaches 120 (pos 2910)) ≡ Some 25
reached_in_the_rest_of_a_day = refl

reached_to_the_minute : least_up_to 30 (reaches 120 (pos 2880)) ≡ Some 24
reached_to_the_minute = refl

passed_is_reached_at_once : map (λ left. least_up_to 30 (reaches 0 left)) (neg_ℤ (pos 5) ∷ pos 0 ∷ pos 1 ∷ []) ≡ Some 0 ∷ Some 0 ∷ None ∷ []
passed_is_reached_at_once = refl

-- the first dimension decides, whichever it is
sooner_by_cycles : map (λ cycles. least_up_to 30 (reaches_some 60 cycles (record { minutes = Some (pos 600); cycles = Some (pos 9); days = Some (pos 20) }))) (0 ∷ 1 ∷ 2 ∷ []) ≡ Some 10 ∷ Some 9 ∷ Some 5 ∷ []
sooner_by_cycles = refl

sooner_by_days : least_up_to 30 (reaches_some 0 0 (record { minutes = Some (pos 600); cycles = Some (pos 9); days = Some (pos 20) })) ≡ Some 20
sooner_by_days = refl
