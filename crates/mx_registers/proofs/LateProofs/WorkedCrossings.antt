-- Worked crossings: which entry a sector overlaps and straddles first, in the book and by its rows, counted by hand.
use Rattle.std.proofs.Common.{refl, ◌≡◌, List, [], ◌∷◌, Some, None, ◌++◌}
use Rattle.std.specs.Prelude.{map}
use Rattle.mx_book.specs.commands.Act.{Entry}
use Rattle.mx_book.specs.declared.commands.sector.Sector.{Sector}
use Rattle.mx_book.specs.Late.{first_overlapped, first_straddled}
use Rattle.mx_book.proofs.Worked.{at, logged}
use Rattle.mx_book.proofs.WorkedFittings.{efgh}
use Rattle.mx_registers.specs.Registers.{release_rows, sector_rows}
use Rattle.mx_registers.specs.kept.Spans.{span_rows}
use Rattle.mx_registers.specs.late.Crossings.{crossed_numbers, least, overlapped_among}
use Rattle.mx_registers.proofs.KeptProofs.WorkedKept.{flown, overhauled, work_on_abcd}
use Rattle.std.specs.Prelude.{codes}

-- D-ABCD flew on 2024-03-01 from 8:00 to 9:30, entry 5; at 9:30 E1 was removed from it and E2 fitted, entries 6 and 7; entry 9 is work in a shop, and entry 10 work at D-ABCD on 2024-03-02 at noon
abbrev in_order : List Entry
in_order = overhauled ++ logged (codes "WO2") work_on_abcd ∷ []

-- of another aircraft
abbrev of_another : Sector
of_another = record { tail = efgh; page = 1; line = 1; off = at 19783 8 0; on = at 19785 0 0; cycles = 1 }

-- one that lands within the sector, one that takes off within it, one around it, one within it; one that lands at its take-off, one that takes off at its landing, and one of another aircraft
abbrev tried : List Sector
tried = flown (at 19783 7 0) (at 19783 8 1) ∷ flown (at 19783 9 29) (at 19783 10 0) ∷ flown (at 19783 7 0) (at 19783 10 0) ∷ flown (at 19783 8 30) (at 19783 8 40)
    ∷ flown (at 19783 7 0) (at 19783 8 0) ∷ flown (at 19783 9 30) (at 19783 10 0) ∷ of_another ∷ []

overlapped : map (first_overlapped in_order) tried ≡ Some 5 ∷ Some 5 ∷ Some 5 ∷ Some 5 ∷ None ∷ None ∷ None ∷ []
overlapped = refl

overlapped_rows : map (λ s. overlapped_among 1 s (sector_rows in_order)) tried ≡ Some 5 ∷ Some 5 ∷ Some 5 ∷ Some 5 ∷ None ∷ None ∷ Some 5 ∷ []
overlapped_rows = refl

-- one across the change of engines; one across the work at the aircraft, one across both, those that end or begin with the change, one across the work in the shop alone, and one of another aircraft
abbrev across : List Sector
across = flown (at 19783 9 0) (at 19783 10 0) ∷ flown (at 19784 11 0) (at 19784 13 0) ∷ flown (at 19783 9 0) (at 19784 13 0)
    ∷ flown (at 19783 9 0) (at 19783 9 30) ∷ flown (at 19783 9 30) (at 19783 10 0) ∷ flown (at 19783 23 0) (at 19784 1 0) ∷ of_another ∷ []

straddled : map (first_straddled in_order) across ≡ Some 6 ∷ Some 10 ∷ Some 6 ∷ None ∷ None ∷ None ∷ None ∷ []
straddled = refl

straddled_rows : map (λ s. least (crossed_numbers 1 s (span_rows in_order) (release_rows in_order))) across ≡ Some 6 ∷ Some 10 ∷ Some 6 ∷ None ∷ None ∷ None ∷ Some 6 ∷ []
straddled_rows = refl
