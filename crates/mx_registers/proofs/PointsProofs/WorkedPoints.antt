-- Worked points: a fleet of one aircraft, two engines and 130 sectors on its way from layout 1 to layout 2 and on to layout 3.
use Rattle.std.proofs.Common.{refl, ◌≡◌, ℕ, zero, suc, ◌+◌, length, List, [], ◌∷◌, Bool, true, false, None}
use Rattle.std.specs.Prelude.{codes, map}
use Rattle.mx_book.specs.commands.Act.{Entry, Flown, Released, Deferred, Extended}
use Rattle.mx_book.specs.declared.commands.sector.Sector.{Sector}
use Rattle.mx_book.proofs.Worked.{at, abcd, logged}
use Rattle.mx_book.proofs.WorkedFittings.{e1, e2, engine_with, first_aircraft, replaced}
use Rattle.mx_registers.proofs.KeptProofs.WorkedKept.{overhauled}
use Rattle.mx_base.specs.declared.point.Point.{Point}
use Rattle.mx_registers.specs.points.Commits.{commits_left, commits_of_both_moves, commits_of_move, commits_of_second_move, commits_to, point_behind, point_behind_to, rounds}
use Rattle.mx_registers.specs.points.Points.{is_before, is_on_way, moving, next_point, next_point_to, point_after}
use Rattle.mx_base.specs.Settled.{settled}
use Rattle.mx_registers.specs.points.Tables.{bases_2, deferrals_2, deferrals_3, done_3, fittings_1, is_table_at, removals_1, rows_at, sectors_1, sectors_2, spans_2, totals_2, is_moved_at, entries_all, aircraft_all, places_all, components_all, programmes_all, tasks_all, openings_all, releases_all, release_lines_all, extensions_all}
use Rattle.mx_registers.specs.points.Moves.{deferrals_mark, deferrals_next, sectors_mark, sectors_next, totals_mark, totals_next}
use Rattle.mx_book.specs.declared.commands.item.Item.TheVariants.{Airframe}
use Rattle.mx_book.specs.declared.commands.release.Line.TheVariants.{Rectified}
use Rattle.mx_book.specs.declared.commands.release.Place.TheVariants.{Aircraft}
use Rattle.mx_base.specs.declared.category.Category.TheVariants.{C}
use Rattle.mx_book.proofs.WorkedProgrammes.{c172, hundred_hours, annual, overhaul, load, open_task}

-- ── which tables there are ──

abbrev point : ℕ → ℕ → ℕ → Point
point layout step mark = record { layout = layout; step = step; mark = mark }

-- of the tables of some layouts: the sectors of either, the fittings and removals, the spans, the totals, the last bases
abbrev there : Point → List Bool
there p = is_table_at sectors_1 p ∷ is_table_at sectors_2 p ∷ is_table_at fittings_1 p ∷ is_table_at removals_1 p ∷ is_table_at spans_2 p ∷ is_table_at totals_2 p ∷ is_table_at bases_2 p ∷ []

tables_at_layout_1 : there (settled 1) ≡ true ∷ false ∷ true ∷ true ∷ false ∷ false ∷ false ∷ []
tables_at_layout_1 = refl

tables_in_step_1 : (mark : ℕ) → there (moving 1 mark) ≡ true ∷ true ∷ true ∷ true ∷ false ∷ false ∷ false ∷ []
tables_in_step_1 mark = refl

tables_in_step_2 : (mark : ℕ) → there (moving 2 mark) ≡ false ∷ true ∷ true ∷ true ∷ true ∷ false ∷ false ∷ []
tables_in_step_2 mark = refl

tables_in_step_3 : (mark : ℕ) → there (moving 3 mark) ≡ false ∷ true ∷ false ∷ false ∷ true ∷ true ∷ false ∷ []
tables_in_step_3 mark = refl

tables_in_step_4 : (mark : ℕ) → there (moving 4 mark) ≡ false ∷ true ∷ false ∷ false ∷ true ∷ true ∷ true ∷ []
tables_in_step_4 mark = refl

tables_at_layout_2 : there (settled 2) ≡ false ∷ true ∷ false ∷ false ∷ true ∷ true ∷ true ∷ []
tables_at_layout_2 = refl

-- of those that the move from layout 2 touches: the deferrals of either table, the last bases, the accomplishments
abbrev there_later : Point → List Bool
there_later p = is_table_at deferrals_2 p ∷ is_table_at deferrals_3 p ∷ is_table_at bases_2 p ∷ is_table_at done_3 p ∷ []

later_tables_at_layout_1 : there_later (settled 1) ≡ true ∷ false ∷ false ∷ false ∷ []
later_tables_at_layout_1 = refl

later_tables_at_layout_2 : there_later (settled 2) ≡ true ∷ false ∷ true ∷ false ∷ []
later_tables_at_layout_2 = refl

tables_with_deferrals : (mark : ℕ) → there_later (point 2 1 mark) ≡ true ∷ true ∷ true ∷ false ∷ []
tables_with_deferrals mark = refl

tables_with_accomplishments : (mark : ℕ) → there_later (point 2 2 mark) ≡ false ∷ true ∷ true ∷ true ∷ []
tables_with_accomplishments mark = refl

tables_at_layout_3 : there_later (settled 3) ≡ false ∷ true ∷ false ∷ true ∷ []
tables_at_layout_3 = refl

-- ── the way of a fleet ──

-- a sector of D-ABCD on this line of its log, on so many days after 2024-03-01
abbrev flight : ℕ → Entry
flight day =
    let s : Sector = record { tail = abcd; page = 1; line = day; off = at (19783 + day) 8 0; on = at (19783 + day) 9 0; cycles = 1 } in
    logged (codes "TL") (Flown s)

-- so many of them, the last day first
abbrev flights : ℕ → List Entry
flights zero = []
flights (suc day) = flight day ∷ flights day

-- entry 1 is the aircraft, 2 and 3 are the engines, and 4 to 133 sectors
abbrev fleet : List Entry
fleet = first_aircraft ∷ logged (codes "C1") (engine_with e1) ∷ logged (codes "C2") (engine_with e2) ∷ flights 130

-- the way begins with an empty table
way_0 : next_point (settled 1) fleet ≡ moving 1 0
way_0 = refl

-- of the sectors first 64 move, then 64 more, and then the last two
way_1 : next_point (moving 1 0) fleet ≡ moving 1 67
way_1 = refl

way_2 : next_point (moving 1 67) fleet ≡ moving 1 131
way_2 = refl

way_3 : next_point (moving 1 131) fleet ≡ moving 1 133
way_3 = refl

-- then what there is of each component, whether it was ever fitted or not
way_4 : next_point (moving 1 133) fleet ≡ moving 2 0
way_4 = refl

way_5 : next_point (moving 2 0) fleet ≡ moving 2 2
way_5 = refl

way_6 : next_point (moving 2 2) fleet ≡ moving 2 3
way_6 = refl

way_7 : next_point (moving 2 3) fleet ≡ moving 3 0
way_7 = refl

-- then the totals of each item
way_8 : next_point (moving 3 0) fleet ≡ moving 3 1
way_8 = refl

way_9 : next_point (moving 3 1) fleet ≡ moving 3 2
way_9 = refl

way_10 : next_point (moving 3 2) fleet ≡ moving 3 3
way_10 = refl

way_11 : next_point (moving 3 3) fleet ≡ moving 4 0
way_11 = refl

-- and then its last bases
way_12 : next_point (moving 4 0) fleet ≡ moving 4 1
way_12 = refl

way_13 : next_point (moving 4 1) fleet ≡ moving 4 2
way_13 = refl

way_14 : next_point (moving 4 2) fleet ≡ moving 4 3
way_14 = refl

way_15 : next_point (moving 4 3) fleet ≡ settled 2
way_15 = refl

-- with layout 2 the newest it stays there; on the way to layout 3 no deferral moves, and the accomplishments of each item are written
way_on : map (λ p. next_point_to 3 p fleet) (settled 2 ∷ point 2 1 0 ∷ point 2 2 0 ∷ point 2 2 1 ∷ point 2 2 2 ∷ point 2 2 3 ∷ settled 3 ∷ [])
    ≡ point 2 1 0 ∷ point 2 2 0 ∷ point 2 2 1 ∷ point 2 2 2 ∷ point 2 2 3 ∷ settled 3 ∷ settled 3 ∷ []
way_on = refl

way_ends : next_point (settled 2) fleet ≡ settled 2
way_ends = refl

points_after : map (λ p. point_after p None) (settled 1 ∷ moving 3 7 ∷ moving 4 7 ∷ settled 2 ∷ []) ≡ moving 1 0 ∷ moving 4 0 ∷ settled 2 ∷ settled 2 ∷ []
points_after = refl

-- 16 commits; and 14 for an aircraft, two engines that were fitted, one sector, a programme and the overhaul of an engine
commits_of_fleet : commits_of_move fleet ≡ 16
commits_of_fleet = refl

commits_of_few : commits_of_move overhauled ≡ 14
commits_of_few = refl

few_reach_layout_2 : map (λ commits. point_behind commits (settled 1) overhauled) (13 ∷ 14 ∷ 15 ∷ []) ≡ moving 4 3 ∷ settled 2 ∷ settled 2 ∷ []
few_reach_layout_2 = refl

-- from the first point 16 commits are left; with one of two components moved, ten are left: one for the other, one to end the step, and four for each of the next two steps
commits_still_left : map (λ p. commits_left p fleet) (settled 1 ∷ moving 2 2 ∷ settled 2 ∷ []) ≡ 16 ∷ 10 ∷ 0 ∷ []
commits_still_left = refl

commits_from_67 : commits_left (moving 1 67) fleet ≡ 14
commits_from_67 = refl

two_commits_on : point_behind 2 (moving 2 2) fleet ≡ moving 3 0
two_commits_on = refl

-- to layout 3 it is six commits more: 22 in all, two of them from the second item on, and 17 from layout 1 have begun the second move
commits_to_layout_3 : map (λ p. commits_to 3 p fleet) (settled 2 ∷ settled 1 ∷ point 2 2 2 ∷ settled 3 ∷ []) ≡ 6 ∷ 22 ∷ 2 ∷ 0 ∷ []
commits_to_layout_3 = refl

commits_of_both : commits_of_both_moves fleet ≡ 22
commits_of_both = refl

seventeen_on : point_behind_to 3 17 (settled 1) fleet ≡ point 2 1 0
seventeen_on = refl

-- ── the way of deferrals ──

-- so many deferrals of D-ABCD, the last first
abbrev deferred : ℕ → List Entry
deferred zero = []
deferred (suc n) = logged (88 ∷ n ∷ []) (Deferred (record { tail = abcd; moment = at 19784 0 0; reference = codes "21-31-01"; category = C })) ∷ deferred n

-- entry 1 is the aircraft, and 2 to 66 are deferrals
abbrev long_list : List Entry
long_list = first_aircraft ∷ deferred 65

-- seven commits to layout 2, and six to layout 3
commits_of_list : commits_left (settled 1) long_list ∷ commits_to 3 (settled 2) long_list ∷ commits_of_second_move long_list ∷ [] ≡ 7 ∷ 6 ∷ 6 ∷ []
commits_of_list = refl

-- 64 deferrals move at once, then the last, and then the accomplishments of the aircraft
way_of_list : map (λ n. point_behind_to 3 n (settled 2) long_list) (1 ∷ 2 ∷ 3 ∷ 4 ∷ 5 ∷ 6 ∷ []) ≡ point 2 1 0 ∷ point 2 1 65 ∷ point 2 1 66 ∷ point 2 2 0 ∷ point 2 2 1 ∷ settled 3 ∷ []
way_of_list = refl

-- ── how many at a time ──

times_64 : map (rounds 64) (0 ∷ 1 ∷ 64 ∷ 65 ∷ 130 ∷ []) ≡ 0 ∷ 1 ∷ 1 ∷ 2 ∷ 3 ∷ []
times_64 = refl

sectors_of_a_commit : map (λ mark. length (sectors_next fleet mark)) (67 ∷ 131 ∷ 133 ∷ []) ≡ 64 ∷ 2 ∷ 0 ∷ []
sectors_of_a_commit = refl

marks_of_sectors : map (sectors_mark fleet) (0 ∷ 131 ∷ 133 ∷ []) ≡ 67 ∷ 133 ∷ 133 ∷ []
marks_of_sectors = refl

-- two commits from the first point on, 64 sectors stand in the new table and 66 in the old
sectors_split : length (rows_at sectors_2 (moving 1 67) fleet) ∷ length (rows_at sectors_1 (moving 1 67) fleet) ∷ [] ≡ 64 ∷ 66 ∷ []
sectors_split = refl

-- ── components ──

-- an entry of each kind but fittings and removals
abbrev opened : List Entry
opened = first_aircraft ∷ logged (codes "C1") (engine_with e1) ∷ logged (codes "P1") (load c172 1 (hundred_hours ∷ annual ∷ overhaul ∷ []))
    ∷ logged (codes "O1") (open_task (Airframe abcd) c172 (codes "ANNUAL") 59000 780 19509)
    ∷ logged (codes "WO1") (Released (record { place = Aircraft abcd; moment = at 19784 0 0 }) (Rectified (codes "X0") ∷ []))
    ∷ logged (codes "X1") (Deferred (record { tail = abcd; moment = at 19784 0 0; reference = codes "21-31-01"; category = C }))
    ∷ logged (codes "E1") (Extended (record { defect = codes "X1"; day = 19785; days = 3 })) ∷ []

-- E1 has moved: its fitting and its removal stand in its span alone, and the fitting of E2 where it was
components_split : map (λ row. row.fit_seq) (rows_at spans_2 (moving 2 2) replaced) ∷ map (λ row. row.seq) (rows_at fittings_1 (moving 2 2) replaced) ∷ map (λ row. row.seq) (rows_at removals_1 (moving 2 2) replaced) ∷ [] ≡ (4 ∷ []) ∷ (7 ∷ []) ∷ [] ∷ []
components_split = refl

-- the totals of the aircraft and of E1 are written
totals_split : map (λ row. row.item) (rows_at totals_2 (moving 3 2) replaced) ≡ 1 ∷ 2 ∷ []
totals_split = refl

totals_of_a_commit : map (λ row. row.item) (totals_next replaced 1) ≡ 2 ∷ []
totals_of_a_commit = refl

marks_of_totals : map (totals_mark replaced) (0 ∷ 1 ∷ 3 ∷ []) ≡ 1 ∷ 2 ∷ 3 ∷ []
marks_of_totals = refl

bases_split : map (λ mark. length (rows_at bases_2 (moving 4 mark) opened)) (0 ∷ 1 ∷ []) ≡ 0 ∷ 1 ∷ []
bases_split = refl

-- ── deferrals and accomplishments ──

-- 64 deferrals stand in the new table, and the last in the old
deferrals_split : length (rows_at deferrals_3 (point 2 1 65) long_list) ∷ length (rows_at deferrals_2 (point 2 1 65) long_list) ∷ [] ≡ 64 ∷ 1 ∷ []
deferrals_split = refl

deferrals_of_a_commit : map (λ mark. length (deferrals_next long_list mark)) (0 ∷ 65 ∷ 66 ∷ []) ≡ 64 ∷ 1 ∷ 0 ∷ []
deferrals_of_a_commit = refl

marks_of_deferrals : map (deferrals_mark long_list) (0 ∷ 65 ∷ 66 ∷ []) ≡ 65 ∷ 66 ∷ 66 ∷ []
marks_of_deferrals = refl

-- the aircraft's opening is its last base until its accomplishments come
accomplishments_split : map (λ p. length (rows_at bases_2 p opened) ∷ length (rows_at done_3 p opened) ∷ []) (point 2 2 0 ∷ point 2 2 1 ∷ settled 3 ∷ []) ≡ (1 ∷ 0 ∷ []) ∷ (0 ∷ 1 ∷ []) ∷ (0 ∷ 1 ∷ []) ∷ []
accomplishments_split = refl

-- an engine that was overhauled has its last base until those of the aircraft and its own have come
engine_split : map (λ p. map (λ row. row.item) (rows_at bases_2 p overhauled) ∷ map (λ row. row.item) (rows_at done_3 p overhauled) ∷ []) (point 2 2 1 ∷ point 2 2 2 ∷ []) ≡ ((2 ∷ []) ∷ [] ∷ []) ∷ ([] ∷ (2 ∷ []) ∷ []) ∷ []
engine_split = refl

-- ── which tables a step moves rows of ──

abbrev moves : Point → List Bool
moves p = is_moved_at sectors_1 p ∷ is_moved_at sectors_2 p ∷ is_moved_at fittings_1 p ∷ is_moved_at removals_1 p ∷ is_moved_at spans_2 p ∷ is_moved_at totals_2 p ∷ is_moved_at bases_2 p ∷ []

moved_in_step_1 : moves (moving 1 5) ≡ true ∷ true ∷ false ∷ false ∷ false ∷ false ∷ false ∷ []
moved_in_step_1 = refl

moved_in_step_2 : moves (moving 2 5) ≡ false ∷ false ∷ true ∷ true ∷ true ∷ false ∷ false ∷ []
moved_in_step_2 = refl

moved_in_step_4 : moves (moving 4 5) ≡ false ∷ false ∷ false ∷ false ∷ false ∷ false ∷ true ∷ []
moved_in_step_4 = refl

abbrev moves_later : Point → List Bool
moves_later p = is_moved_at deferrals_2 p ∷ is_moved_at deferrals_3 p ∷ is_moved_at bases_2 p ∷ is_moved_at done_3 p ∷ []

moved_with_deferrals : moves_later (point 2 1 5) ≡ true ∷ true ∷ false ∷ false ∷ []
moved_with_deferrals = refl

moved_with_accomplishments : moves_later (point 2 2 5) ≡ false ∷ false ∷ true ∷ true ∷ []
moved_with_accomplishments = refl

-- ── the tables that all layouts have ──

abbrev whole : Point → List ℕ
whole p = length (rows_at entries_all p opened) ∷ length (rows_at aircraft_all p opened) ∷ length (rows_at places_all p opened) ∷ length (rows_at components_all p opened) ∷ length (rows_at programmes_all p opened) ∷ length (rows_at tasks_all p opened)
    ∷ length (rows_at openings_all p opened) ∷ length (rows_at releases_all p opened) ∷ length (rows_at release_lines_all p opened) ∷ length (rows_at extensions_all p opened) ∷ []

-- at any point they have all their rows
whole_tables : (layout step mark : ℕ) → whole (point layout step mark) ≡ 7 ∷ 1 ∷ 2 ∷ 1 ∷ 1 ∷ 3 ∷ 1 ∷ 1 ∷ 1 ∷ 1 ∷ []
whole_tables layout step mark = refl

-- ── points that are not on the way ──

abbrev others : List Point
others = point 0 0 0 ∷ point 1 0 7 ∷ point 1 5 0 ∷ point 1 1 1000001 ∷ point 2 0 0 ∷ point 3 1 0 ∷ []

others_off_way : map is_on_way others ≡ false ∷ false ∷ false ∷ false ∷ false ∷ false ∷ []
others_off_way = refl

others_stay : map (λ p. next_point p replaced) others ≡ others
others_stay = refl

-- on the way to layout 3 the points of the second move are too, up to its last step
before_layout_3 : map (is_before 3) (settled 1 ∷ settled 2 ∷ point 2 1 65 ∷ point 2 2 3 ∷ point 2 3 0 ∷ point 2 0 1 ∷ settled 3 ∷ []) ≡ true ∷ true ∷ true ∷ true ∷ false ∷ false ∷ false ∷ []
before_layout_3 = refl

-- an entry's number is at most 1,000,000
last_mark : is_on_way (moving 4 1000000) ≡ true
last_mark = refl
