-- Worked crossings: what rows near a sector say of it, counted by hand.
use Rattle.std.proofs.Common.{refl, ◌≡◌, ℕ, List, [], ◌∷◌, map, Bool, true, false, Option, Some, None}
use Rattle.std.specs.Prelude.{codes}
use Rattle.mx_base.specs.declared.rows.rows.ReleaseRow.{ReleaseRow}
use Rattle.mx_base.specs.declared.rows.rows.SectorRow.{SectorRow}
use Rattle.mx_base.specs.declared.rows.rows.SpanRow.{SpanRow}
use Rattle.mx_base.specs.declared.rows.rows.TotalRow.{TotalRow}
use Rattle.mx_book.specs.declared.commands.sector.Sector.{Sector}
use Rattle.mx_registers.specs.late.Crossings.{sooner}
use Rattle.mx_row_rules.specs.found.Crossings.{earliest_overlapping, is_near, is_released_near, late_in, overlapped_in, straddled_moves, straddled_releases}

-- a sector that takes off at minute 3000 and lands at 3060
abbrev flight : Sector
flight = record { tail = codes "D-ABCD"; page = 1; line = 1; off = 3000; on = 3060; cycles = 1 }

abbrev total : ℕ → TotalRow
total clock = record { item = 1; life = record { minutes = 600; cycles = 8 }; clock = clock }

-- it is late where the clock is behind its take-off; without a total nobody knows
late_by_clock : map (λ rows. late_in flight 1 rows) ((total 2999 ∷ []) ∷ (total 3000 ∷ []) ∷ (total 3001 ∷ []) ∷ [] ∷ []) ≡ Some None ∷ Some None ∷ Some (Some 1) ∷ None ∷ []
late_by_clock = refl

-- a sector that took off a day before it and is under way then took off a minute less than a day before, at the earliest
one_day_before : earliest_overlapping flight ≡ 1561
one_day_before = refl

first_day : earliest_overlapping (record flight { off = 500; on = 560 }) ≡ 0
first_day = refl

abbrev flown : ℕ → ℕ → ℕ → ℕ → SectorRow
flown seq aircraft off on = record { seq = seq; aircraft = aircraft; page = 1; line = 2; took_off = off; landed = on; cycles = 1 }

-- of aircraft 1, from that take-off on and before the landing
near_it : map (is_near 1 flight) (flown 4 1 1560 3000 ∷ flown 4 1 1561 3001 ∷ flown 4 1 3059 3100 ∷ flown 4 1 3060 3100 ∷ flown 4 2 3010 3020 ∷ []) ≡ false ∷ true ∷ true ∷ false ∷ false ∷ []
near_it = refl

-- the first of those that is under way with it: not one that lands at its take-off or takes off at its landing
overlapped_first : map (overlapped_in flight) ((flown 4 1 2900 3000 ∷ flown 5 1 2900 3001 ∷ flown 6 1 3010 3020 ∷ []) ∷ (flown 7 1 3059 3100 ∷ []) ∷ (flown 8 1 3060 3100 ∷ []) ∷ []) ≡ Some 5 ∷ Some 7 ∷ None ∷ []
overlapped_first = refl

abbrev span : ℕ → ℕ → Option ℕ → Option ℕ → SpanRow
span seq from remove_seq to = record { fit_seq = seq; component = 2; aircraft = 1; position = codes "ENG"; from = from; remove_seq = remove_seq; to = to }

-- the least number, of a fitting or of a removal, whichever row it stands in
moves_straddled : map (straddled_moves flight) ((span 4 100 (Some 9) (Some 3010) ∷ span 8 3020 None None ∷ []) ∷ (span 4 3000 (Some 9) (Some 3060) ∷ []) ∷ (span 4 3001 (Some 9) (Some 3059) ∷ []) ∷ []) ≡ Some 8 ∷ None ∷ Some 4 ∷ []
moves_straddled = refl

abbrev work : ℕ → ℕ → ℕ → ReleaseRow
work seq item moment = record { seq = seq; item = item; kind = None; moment = moment }

releases_straddled : map (straddled_releases flight) ((work 7 1 3059 ∷ work 5 1 3001 ∷ []) ∷ (work 7 1 3000 ∷ work 8 1 3060 ∷ []) ∷ []) ≡ Some 5 ∷ None ∷ []
releases_straddled = refl

released_near : map (is_released_near 1 flight) (work 7 1 2999 ∷ work 7 1 3000 ∷ work 7 1 3059 ∷ work 7 1 3060 ∷ work 7 2 3010 ∷ []) ≡ false ∷ true ∷ true ∷ false ∷ false ∷ []
released_near = refl
