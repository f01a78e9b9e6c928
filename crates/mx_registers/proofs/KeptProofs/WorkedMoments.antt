-- Worked lives by moments: what items flew by then, counted by hand.
use Rattle.std.proofs.Common.{refl, ◌≡◌, ℕ, [], ◌∷◌, true, false, Some, None}
use Rattle.std.specs.Prelude.{codes, map}
use Rattle.mx_book.specs.declared.commands.item.Item.{Item}
use Rattle.mx_book.specs.declared.commands.item.Item.TheVariants.{Airframe, Component}
use Rattle.mx_book.specs.declared.commands.sector.Sector.{Sector}
use Rattle.mx_book.proofs.Worked.{at, used, abcd}
use Rattle.mx_book.proofs.WorkedFittings.{e1, e2, efgh, on_another}
use Rattle.mx_registers.specs.Registers.{sector_rows}
use Rattle.mx_book.specs.Late.{is_during}
use Rattle.mx_registers.specs.kept.Moments.{flown_by_number, flown_of, life_by_moments, sooner}
use Rattle.mx_registers.specs.kept.Spans.{span_rows}

-- E1 was on D-ABCD up to the landing of its sector of 90 minutes at 09:30 on 2024-03-01, and is on D-EFGH since 2024-03-05, which flew two hours that day and two cycles
flown_by_e1 : map (flown_of on_another (Component e1)) (None ∷ Some (at 19783 9 30) ∷ Some (at 19783 9 29) ∷ Some (at 19787 11 59) ∷ Some (at 19787 12 0) ∷ Some (at 19700 0 0) ∷ [])
    ≡ used 210 3 ∷ used 90 1 ∷ used 0 0 ∷ used 90 1 ∷ used 210 3 ∷ used 0 0 ∷ []
flown_by_e1 = refl

-- E2 came when D-ABCD had flown these 90 minutes, and was removed before the hour of the next day
flown_by_others : map (λ (item : Item). flown_of on_another item None) (Component e2 ∷ Airframe abcd ∷ Airframe efgh ∷ []) ≡ used 0 0 ∷ used 150 2 ∷ used 120 2 ∷ []
flown_by_others = refl

lives : map (λ (item : Item). life_by_moments on_another item None) (Component e1 ∷ Component (codes "E9") ∷ []) ≡ Some (used 1210 103) ∷ None ∷ []
lives = refl

-- D-ABCD is entry 1, E1 and E2 are entries 2 and 3, and D-EFGH is entry 10; entry 4 added nothing
flown_by_numbers : map (λ (number : ℕ). flown_by_number (sector_rows on_another) (span_rows on_another) number None) (1 ∷ 2 ∷ 3 ∷ 10 ∷ 4 ∷ []) ≡ used 150 2 ∷ used 210 3 ∷ used 0 0 ∷ used 120 2 ∷ used 0 0 ∷ []
flown_by_numbers = refl

by_then : map (λ (until : ℕ). flown_by_number (sector_rows on_another) (span_rows on_another) 2 (Some until)) (at 19783 9 30 ∷ at 19783 9 29 ∷ at 19787 12 0 ∷ []) ≡ used 90 1 ∷ used 0 0 ∷ used 210 3 ∷ []
by_then = refl

sooner_of_two : map (sooner (Some 5)) (None ∷ Some 3 ∷ Some 9 ∷ []) ≡ Some 5 ∷ Some 3 ∷ Some 5 ∷ []
sooner_of_two = refl

-- from behind the take-off to before the landing
abbrev sector : Sector
sector = record { tail = abcd; page = 12; line = 1; off = at 19783 8 0; on = at 19783 9 30; cycles = 1 }

under_way : map (is_during sector) (at 19783 8 0 ∷ at 19783 8 1 ∷ at 19783 9 29 ∷ at 19783 9 30 ∷ []) ≡ false ∷ true ∷ true ∷ false ∷ []
under_way = refl
