-- Worked sectors by landing, accomplishments as they are said, and cycles at which defects were found, counted by hand.
use Rattle.std.proofs.Common.{refl, ◌≡◌, ℕ, ◌+◌, List, [], ◌∷◌, ◌++◌, true, false, Some, None}
use Rattle.std.specs.Prelude.{codes, filter, map}
use Rattle.std.specs.declared.cmp.Ordering.TheVariants.{Less, Equal, Greater}
use Rattle.mx_base.specs.declared.amounts.Base.{Base}
use Rattle.mx_base.specs.declared.category.Category.TheVariants.{C}
use Rattle.mx_base.specs.declared.rows.rows.DoneRow.{DoneRow}
use Rattle.mx_base.specs.declared.rows.rows.Deferral3Row.{Deferral3Row}
use Rattle.mx_book.specs.commands.Act.{Entry, Flown, Released}
use Rattle.mx_book.specs.declared.commands.item.Item.TheVariants.{Airframe, Component}
use Rattle.mx_book.specs.declared.commands.programme.Task.{Task}
use Rattle.mx_book.specs.declared.commands.release.Line.TheVariants.{Done, Rectified}
use Rattle.mx_book.specs.declared.commands.release.Place.TheVariants.{Aircraft}
use Rattle.mx_book.specs.Book.{is_book}
use Rattle.mx_book.proofs.Worked.{abcd, at, logged, used}
use Rattle.mx_book.proofs.WorkedDefects.{defer, x1}
use Rattle.mx_book.proofs.WorkedFittings.{e2, on_another, without_engine}
use Rattle.mx_book.proofs.WorkedProgrammes.{annual, c172, days_alone, first_four, hundred_hours, load, minutes_alone, overhaul}
use Rattle.mx_registers.specs.Registers.{deferral_rows, no_limit, sector_rows}
use Rattle.mx_registers.specs.kept.Spans.{span_rows}
use Rattle.mx_registers.specs.late.Found.{found_rows}
use Rattle.mx_registers.proofs.KeptProofs.WorkedKept.{flown, overhauled, work_on_abcd}
use Rattle.mx_indexed_book.specs.declared.moments.done.Accomplished.{Accomplished}
use Rattle.mx_indexed_book.specs.declared.moments.done.Said.TheVariants.{ByOpening, ByRelease}
use Rattle.mx_indexed_book.specs.moments.Done.{accomplished, accomplished_by, is_said_of, said_chain, task_cmp, value_said}
use Rattle.mx_indexed_book.specs.moments.Flown.{at_most, component_of}
use Rattle.mx_indexed_book.specs.moments.Found.{cycles_reached, found_row}
use Rattle.mx_indexed_book.specs.moments.Landings.{landing_key, last_by, less, none_flown, sums_after}

-- ── sectors by landing ──

-- D-ABCD, entry 1, flew 90 minutes on 2024-03-01 and 60 the next day, with a cycle each; D-EFGH, entry 10, 120 minutes and two cycles on 2024-03-05
keys : map landing_key (sector_rows on_another) ≡ (4294967296 + at 19783 9 30) ∷ (4294967296 + at 19784 9 0) ∷ (42949672960 + at 19787 12 0) ∷ []
keys = refl

sums : none_flown ∷ sums_after none_flown (sector_rows on_another) ≡ used 0 0 ∷ used 90 1 ∷ used 150 2 ∷ used 270 4 ∷ []
sums = refl

-- what D-EFGH flew is the last sum less the one before it
between : less (used 270 4) (used 150 2) ≡ used 120 2
between = refl

last_minutes : map last_by (Some (at 19783 9 30) ∷ None ∷ []) ≡ at 19783 9 30 ∷ 4294967295 ∷ []
last_minutes = refl

-- E1 and E2, entries 2 and 3, were on D-ABCD one after the other, and E1 on D-EFGH then
components : map component_of (span_rows on_another) ≡ 2 ∷ 3 ∷ 2 ∷ []
components = refl

-- a life has room for 2 ^ 32 - 1 of either
most : map at_most (used 4294967296 7 ∷ used 7 4294967296 ∷ used 60150 802 ∷ []) ≡ used 4294967295 7 ∷ used 7 4294967295 ∷ used 60150 802 ∷ []
most = refl

-- ── what entries say ──

-- entry 9 overhauls E1 in a shop on 2024-03-02 at midnight; entry 10 is the work at D-ABCD at noon, both inspections and the overhaul of E2
abbrev maintained : List Entry
maintained = overhauled ++ logged (codes "WO2") work_on_abcd ∷ []

abbrev at_noon : ℕ → List ℕ → ℕ → Task → Accomplished
at_noon item id line task = record { item = item; task = id; seq = 10; line = line; said = ByRelease (at 19784 12 0) (Some task) }

abbrev in_all : List Accomplished
in_all = record { item = 2; task = codes "OVH"; seq = 9; line = 1; said = ByRelease (at 19784 0 0) (Some overhaul) }
    ∷ at_noon 1 (codes "100H") 1 hundred_hours ∷ at_noon 1 (codes "ANNUAL") 2 annual ∷ at_noon 3 (codes "OVH") 3 overhaul ∷ []

said : accomplished maintained ≡ in_all
said = refl

-- a later programme changes none of it
loaded_behind : accomplished (maintained ++ logged (codes "P2") (load c172 2 (record hundred_hours { first = minutes_alone 50000 } ∷ [])) ∷ []) ≡ in_all
loaded_behind = refl

-- a task that the programme in force does not have
not_in_force : accomplished_by maintained (Released (record { place = Aircraft abcd; moment = at 19785 0 0 }) (Rectified x1 ∷ Done (Airframe abcd) (codes "200H") ∷ []))
    ≡ record { item = 1; task = codes "200H"; seq = 11; line = 2; said = ByRelease (at 19785 0 0) None } ∷ []
not_in_force = refl

-- the yearly inspection of D-ABCD, which entry 3 states as of 2023-06-01
abbrev stated : Accomplished
stated = record { item = 1; task = codes "ANNUAL"; seq = 3; line = 0; said = ByOpening (record { minutes = 59000; cycles = 780; day = 19509 }) }

opened : accomplished first_four ≡ stated ∷ []
opened = refl

own : map (is_said_of 1 (codes "ANNUAL")) (stated ∷ in_all) ≡ true ∷ false ∷ false ∷ true ∷ false ∷ []
own = refl

own_overhaul : map (is_said_of 3 (codes "OVH")) in_all ≡ false ∷ false ∷ false ∷ true ∷ []
own_overhaul = refl

-- ── their rows ──

abbrev that_day : ℕ → ℕ → Base
that_day minutes cycles = record { minutes = minutes; cycles = cycles; day = 19784 }

-- never stated, the yearly inspection was due a year after the birth on 2000-01-01, which is day 11,322, and its base has that day
first_annual : said_chain maintained (Airframe abcd) None (filter (is_said_of 1 (codes "ANNUAL")) (accomplished maintained))
    ≡ record { item = 1; task = codes "ANNUAL"; seq = 10; line = 2; value = that_day 60090 801; due = days_alone 11322; base = record { minutes = 60090; cycles = 801; day = 11322 } } ∷ []
first_annual = refl

-- behind the opening it is due a year after 2023-06-01, which is day 19,874; a third time a year after the second
abbrev done_on : ℕ → ℕ → Accomplished
done_on seq day = record { item = 1; task = codes "ANNUAL"; seq = seq; line = 1; said = ByRelease (at day 12 0) (Some annual) }

abbrev annual_row : ℕ → ℕ → ℕ → ℕ → DoneRow
annual_row seq day due base = record { item = 1; task = codes "ANNUAL"; seq = seq; line = 1; value = record { minutes = 60090; cycles = 801; day = day }; due = days_alone due; base = record { minutes = 60090; cycles = 801; day = base } }

each_behind_the_last : said_chain first_four (Airframe abcd) None (stated ∷ done_on 5 19784 ∷ done_on 6 20159 ∷ [])
    ≡ record { item = 1; task = codes "ANNUAL"; seq = 3; line = 0; value = record { minutes = 59000; cycles = 780; day = 19509 }; due = no_limit; base = record { minutes = 59000; cycles = 780; day = 19509 } }
    ∷ annual_row 5 19784 19874 19784 ∷ annual_row 6 20159 20149 20149 ∷ []
each_behind_the_last = refl

-- E2, fitted at the landing of the one sector, has what it came with
overhaul_of_e2 : said_chain maintained (Component e2) None (filter (is_said_of 3 (codes "OVH")) (accomplished maintained))
    ≡ record { item = 3; task = codes "OVH"; seq = 10; line = 3; value = that_day 1000 100; due = minutes_alone 120000; base = that_day 1000 100 } ∷ []
overhaul_of_e2 = refl

-- an hour that had landed by noon counts, however late it is entered, and one under way at noon does not
with_late : map (λ off. value_said (maintained ++ logged (codes "TL/D-ABCD/12/2") (Flown (flown off (off + 60))) ∷ []) (Airframe abcd) (ByRelease (at 19784 12 0) (Some annual))) (at 19784 8 0 ∷ at 19784 11 1 ∷ [])
    ≡ that_day 60150 802 ∷ that_day 60090 801 ∷ []
with_late = refl

-- by the number of the item, and then by the name
order : map (task_cmp (2, codes "ANNUAL")) ((1, codes "OVH") ∷ (3, codes "100H") ∷ (2, codes "100H") ∷ (2, codes "OVH") ∷ (2, codes "ANNUAL") ∷ []) ≡ Greater ∷ Less ∷ Greater ∷ Less ∷ Equal ∷ []
order = refl

-- ── cycles at which defects were found ──

-- X1, entry 10, was found on D-ABCD an hour behind its second landing; a third sector landed at noon
abbrev deferred : List Entry
deferred = without_engine ++ logged x1 (defer abcd (at 19784 10 0) C)
    ∷ logged (codes "TL/D-ABCD/12/3") (Flown (record { tail = abcd; page = 12; line = 3; off = at 19784 11 0; on = at 19784 12 0; cycles = 1 })) ∷ []

accepted : is_book deferred ≡ true
accepted = refl

-- it came with 800 cycles
reached : map (cycles_reached deferred 1) (at 19783 9 29 ∷ at 19783 9 30 ∷ at 19784 9 0 ∷ at 19784 11 59 ∷ at 19784 12 0 ∷ []) ≡ 800 ∷ 801 ∷ 802 ∷ 802 ∷ 803 ∷ []
reached = refl

-- E1 flew the first sector, and entry 4 added nothing
reached_by_others : map (λ (number : ℕ). cycles_reached deferred number (at 19784 12 0)) (2 ∷ 4 ∷ []) ≡ 101 ∷ 0 ∷ []
reached_by_others = refl

abbrev found : List Deferral3Row
found = record { deferral = record { seq = 10; aircraft = 1; moment = at 19784 10 0; reference = codes "21-31-01"; category = C }; found_cycles = 802 } ∷ []

by_deferrals : map (found_row deferred) (deferral_rows deferred) ≡ found
by_deferrals = refl

of_the_book : found_rows deferred ≡ found
of_the_book = refl
