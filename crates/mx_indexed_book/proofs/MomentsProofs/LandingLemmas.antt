-- What was flown with an aircraft by a moment is the difference of two sums.
use Rattle.std.proofs.Common.{arith, refl, sym, ap, ◌∙◌, ◌≡◌, ℕ, zero, suc, ◌+◌, ◌^◌, ◌-◌, ◌≤◌, ◌<◌, List, [], ◌∷◌, length, Bool, true, false, cond, not, ◌&&◌, nat_eq, Option, Some, None, get_or, eq-eqb, eqb-true, le-leb, le-ltb, leb-true, ltb-false, ltb-true}
use Rattle.std.specs.Prelude.{filter, take, leb, ltb}
use Rattle.std.specs.List.{AllByRecursion, AllWithin}
use Rattle.std.specs.List.Sorted.{IsNonDecreasingBy}
use Rattle.mx_base.specs.declared.amounts.Use.{Use}
use Rattle.mx_base.specs.declared.rows.rows.SectorRow.{SectorRow}
use Rattle.mx_base.specs.rows.Rows.{line_key}
use Rattle.mx_base.specs.Calendar.{last_moment}
use Rattle.mx_book.proofs.JudgeLemmas.{both_true}
use Rattle.mx_registers.specs.kept.Moments.{cycles_in, flown_with, is_by, minutes_in, rows_landed}
use Rattle.mx_registers.proofs.KeptProofs.MomentRows.{cycles_total, minutes_total}
use Rattle.mx_registers.proofs.KeptProofs.Weighing.{rest_weighed, same_filter, weigh}
use Rattle.mx_indexed_book.specs.moments.Landings.{AreLandings, IsLandingOfDay, landing_key, last_by, less, more_by, none_flown, sums_after}

-- ── those before a point ──

-- where each before a point passes a test, and none from there on, those that pass it are those before it
pub passed_before : {X : Type 0} (p : X → Bool) (xs : List X) (i : ℕ) → AllWithin (λ x. p x ≡ true) xs 0 i → AllWithin (λ x. p x ≡ false) xs i (length xs) → i ≤ length xs → filter p xs ≡ take i xs
passed_before p [] zero pass fail h = refl
passed_before p [] (suc i) pass fail h = elim h [ ]
passed_before p (x ∷ xs) (suc i) pass fail h =
    ap (λ c. cond c (x ∷ filter p xs) (filter p xs)) (pass 0 x (omega arith) (omega arith))
    ∙ ap (λ l. x ∷ l) (passed_before p xs i (λ k d le lt. pass (suc k) d (omega arith) (omega arith)) (λ k d le lt. fail (suc k) d (omega arith) (omega arith)) (omega arith))
passed_before p (x ∷ xs) zero pass fail h =
    ap (λ c. cond c (x ∷ filter p xs) (filter p xs)) (fail 0 x (omega arith) (omega arith))
    ∙ passed_before p xs 0 (λ k d le lt. pass (suc k) d (omega arith) (omega arith)) (λ k d le lt. fail (suc k) d (omega arith) (omega arith)) (omega arith)

-- ── sums ──

pub sums_minutes : (u : Use) (rows : List SectorRow) (i : ℕ) (d : Use) → i ≤ length rows → (get_or (u ∷ sums_after u rows) i d).minutes ≡ u.minutes + minutes_in (take i rows)
sums_minutes u [] zero d h = omega arith
sums_minutes u [] (suc i) d h = elim h [ ]
sums_minutes u (row ∷ rows) zero d h = omega arith
sums_minutes u (row ∷ rows) (suc i) d h = let rest = sums_minutes (more_by row u) rows i d (omega arith) in omega arith

pub sums_cycles : (u : Use) (rows : List SectorRow) (i : ℕ) (d : Use) → i ≤ length rows → (get_or (u ∷ sums_after u rows) i d).cycles ≡ u.cycles + cycles_in (take i rows)
sums_cycles u [] zero d h = omega arith
sums_cycles u [] (suc i) d h = elim h [ ]
sums_cycles u (row ∷ rows) zero d h = omega arith
sums_cycles u (row ∷ rows) (suc i) d h = let rest = sums_cycles (more_by row u) rows i d (omega arith) in omega arith

pub sums_length : (u : Use) (rows : List SectorRow) → length (sums_after u rows) ≡ length rows
sums_length u [] = refl
sums_length u (row ∷ rows) = ap suc (sums_length (more_by row u) rows)

-- ── places ──

same_bool : (a b : Bool) → (a ≡ true → b ≡ true) → (b ≡ true → a ≡ true) → a ≡ b
same_bool true b h k = sym (h refl)
same_bool false true h k = k refl
same_bool false false h k = refl

not_true : (a : Bool) → not a ≡ true → a ≡ false
not_true true h = let no : false ≡ true = h in (cc)
not_true false h = refl

true_both : (a b : Bool) → a ≡ true → b ≡ true → (a && b) ≡ true
true_both true b h k = k
true_both false b h k = let no : false ≡ true = h in (cc)

false_not : (a : Bool) → a ≡ false → not a ≡ true
false_not true h = let no : true ≡ false = h in (cc)
false_not false h = refl

pub small : (landed : ℕ) → landed ≤ last_moment → landed < 2 ^ 32
small landed h = let most : last_moment ≤ 2 ^ 32 - 1 = leb-true last_moment (2 ^ 32 - 1) refl in omega arith

abbrev pub before_place : ℕ → SectorRow → Bool
before_place place row = ltb (landing_key row) place

abbrev pub up_to_place : ℕ → SectorRow → Bool
up_to_place place row = leb (landing_key row) place

by_last : (until : Option ℕ) (landed : ℕ) → landed < 2 ^ 32 → landed ≤ last_by until → is_by until landed ≡ true
by_last None landed h le = refl
by_last (Some m) landed h le = le-leb landed m le

last_of_by : (until : Option ℕ) (landed : ℕ) → landed < 2 ^ 32 → is_by until landed ≡ true → landed ≤ last_by until
last_of_by None landed h is = omega arith
last_of_by (Some m) landed h is = leb-true landed m is

-- the places of an aircraft by a moment are those of its sectors that had landed by then
in_places : (aircraft : ℕ) (until : Option ℕ) (row : SectorRow) → row.landed < 2 ^ 32 → last_by until < 2 ^ 32
    → (up_to_place (line_key aircraft (last_by until)) row && not (before_place (line_key aircraft 0) row)) ≡ (nat_eq row.aircraft aircraft && is_by until row.landed)
in_places aircraft until row low last = same_bool (up && not before) (nat_eq row.aircraft aircraft && is_by until row.landed) there back
  where
    up : Bool
    up = up_to_place (line_key aircraft (last_by until)) row

    before : Bool
    before = before_place (line_key aircraft 0) row

    there : (up && not before) ≡ true → (nat_eq row.aircraft aircraft && is_by until row.landed) ≡ true
    there h =
        let ends = both_true up (not before) h in
        let le : line_key row.aircraft row.landed ≤ line_key aircraft (last_by until) = leb-true (landing_key row) (line_key aircraft (last_by until)) ends.0 in
        let from : line_key aircraft 0 ≤ line_key row.aircraft row.landed = ltb-false (landing_key row) (line_key aircraft 0) (not_true before ends.1) in
        let same : row.aircraft ≡ aircraft = omega arith in
        true_both (nat_eq row.aircraft aircraft) (is_by until row.landed) (eq-eqb row.aircraft aircraft same) (by_last until row.landed low (omega arith))

    back : (nat_eq row.aircraft aircraft && is_by until row.landed) ≡ true → (up && not before) ≡ true
    back h =
        let parts = both_true (nat_eq row.aircraft aircraft) (is_by until row.landed) h in
        let same : row.aircraft ≡ aircraft = eqb-true row.aircraft aircraft parts.0 in
        let by = last_of_by until row.landed low parts.1 in
        true_both up (not before) (le-leb (landing_key row) (line_key aircraft (last_by until)) (omega arith)) (false_not before (le-ltb (landing_key row) (line_key aircraft 0) (omega arith)))

-- ── the sectors of an aircraft by a moment ──

module _ (of : SectorRow → ℕ) (aircraft : ℕ) (until : Option ℕ) (last : last_by until < 2 ^ 32) where
  sooner_passed : (rows : List SectorRow) → AllByRecursion (λ row. before_place (line_key aircraft 0) row ≡ true → up_to_place (line_key aircraft (last_by until)) row ≡ true) rows
  sooner_passed [] = tt
  sooner_passed (row ∷ rows) = ((λ h. let lt = ltb-true (landing_key row) (line_key aircraft 0) h in le-leb (landing_key row) (line_key aircraft (last_by until)) (omega arith)), sooner_passed rows)

  alike : (rows : List SectorRow) → AllByRecursion IsLandingOfDay rows → AllByRecursion (λ row. (up_to_place (line_key aircraft (last_by until)) row && not (before_place (line_key aircraft 0) row)) ≡ (nat_eq row.aircraft aircraft && is_by until row.landed)) rows
  alike [] h = tt
  alike (row ∷ rows) h = (in_places aircraft until row (small row.landed h.0) last, alike rows h.1)

  -- their sum is that of those up to the last place less that of those before the first
  pub between : (rows : List SectorRow) (first end : ℕ) → AllByRecursion IsLandingOfDay rows
      → filter (before_place (line_key aircraft 0)) rows ≡ take first rows → filter (up_to_place (line_key aircraft (last_by until))) rows ≡ take end rows
      → weigh of (rows_landed rows aircraft until) ≡ weigh of (take end rows) - weigh of (take first rows)
  between rows first end small from to =
      sym (ap (weigh of) (same_filter _ _ rows (alike rows small)))
      ∙ rest_weighed of (up_to_place (line_key aircraft (last_by until))) (before_place (line_key aircraft 0)) rows (sooner_passed rows)
      ∙ ap (λ xs. weigh of xs - weigh of (filter (before_place (line_key aircraft 0)) rows)) to
      ∙ ap (λ xs. weigh of (take end rows) - weigh of xs) from

-- what was flown with an aircraft by a moment, of sectors in the order of their places, by two of their sums
pub flown_between : (rows : List SectorRow) (aircraft : ℕ) (until : Option ℕ) (first end : ℕ) (d e : Use) → last_by until < 2 ^ 32 → AllByRecursion IsLandingOfDay rows → first ≤ length rows → end ≤ length rows
    → filter (before_place (line_key aircraft 0)) rows ≡ take first rows → filter (up_to_place (line_key aircraft (last_by until))) rows ≡ take end rows
    → less (get_or (none_flown ∷ sums_after none_flown rows) end d) (get_or (none_flown ∷ sums_after none_flown rows) first e) ≡ flown_with rows aircraft until
flown_between rows aircraft until first end d e last small low high from to =
    let minutes : (get_or (none_flown ∷ sums_after none_flown rows) end d).minutes - (get_or (none_flown ∷ sums_after none_flown rows) first e).minutes ≡ minutes_in (rows_landed rows aircraft until) =
    let a = sums_minutes none_flown rows end d high in let b = sums_minutes none_flown rows first e low in
    let c = between (λ row. row.landed - row.took_off) aircraft until last rows first end small from to in
    let x = minutes_total (take end rows) in let y = minutes_total (take first rows) in let z = minutes_total (rows_landed rows aircraft until) in omega arith in
    let cycles : (get_or (none_flown ∷ sums_after none_flown rows) end d).cycles - (get_or (none_flown ∷ sums_after none_flown rows) first e).cycles ≡ cycles_in (rows_landed rows aircraft until) =
    let a = sums_cycles none_flown rows end d high in let b = sums_cycles none_flown rows first e low in
    let c = between (λ row. row.cycles) aircraft until last rows first end small from to in
    let x = cycles_total (take end rows) in let y = cycles_total (take first rows) in let z = cycles_total (rows_landed rows aircraft until) in omega arith in
    ap (λ n. used n ((get_or (none_flown ∷ sums_after none_flown rows) end d).cycles - (get_or (none_flown ∷ sums_after none_flown rows) first e).cycles)) minutes ∙ ap (used (minutes_in (rows_landed rows aircraft until))) cycles
  where
    used : ℕ → ℕ → Use
    used minutes cycles = record { minutes = minutes; cycles = cycles }

-- the same, where these are the numbers of the places, and the sums are those of the sectors
pub flown_found : (rows : List SectorRow) (sums : List Use) (aircraft : ℕ) (until : Option ℕ) (first end low high last : ℕ) (later earlier : Use) → AreLandings rows sums → last < 2 ^ 32 → last ≡ last_by until
    → low ≡ line_key aircraft 0 → high ≡ line_key aircraft last → first ≤ length rows → end ≤ length rows
    → (IsNonDecreasingBy landing_key rows → filter (before_place low) rows ≡ take first rows) → (IsNonDecreasingBy landing_key rows → filter (up_to_place high) rows ≡ take end rows)
    → ((d : Use) → later ≡ get_or sums end d) → ((d : Use) → earlier ≡ get_or sums first d)
    → less later earlier ≡ flown_with rows aircraft until
flown_found rows sums aircraft until first end low high last later earlier are small is at_low at_high below above from to first_is then_is =
    let up = are.order in
    ap (λ u. less u earlier) (first_is none_flown ∙ ap (λ s. get_or s end none_flown) are.flown)
    ∙ ap (λ u. less (get_or (none_flown ∷ sums_after none_flown rows) end none_flown) u) (then_is none_flown ∙ ap (λ s. get_or s first none_flown) are.flown)
    ∙ flown_between rows aircraft until first end none_flown none_flown (omega arith) are.bounded below above
    (ap (λ n. filter (before_place n) rows) (sym at_low) ∙ from up)
    (ap (λ n. filter (up_to_place n) rows) (sym (at_high ∙ ap (line_key aircraft) is)) ∙ to up)
