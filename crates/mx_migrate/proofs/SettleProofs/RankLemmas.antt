-- Points behind others have more points before them, and there are fewer than an opening makes commits.
use Rattle.std.proofs.Common.{◌≡◌, ◌⊎◌, inl, inr, ℕ, zero, suc, ◌+◌, ◌*◌, ◌-◌, ◌<◌, ◌≤◌, length, List, [], ◌∷◌, true, cond, not, nat_eq, nat_le, nat_lt, ◌&&◌, ◌||◌, refl, sym, ap, subst, ◌∙◌, arith}
use Rattle.mx_book.specs.commands.Act.{Entry}
use Rattle.mx_book.specs.Book.{IsBook}
use Rattle.mx_book.specs.declared.limits.TheConstants.{MOST_ENTRIES}
use Rattle.mx_base.specs.declared.point.Point.{Point}
use Rattle.mx_base.specs.declared.rows.rows.AircraftRow.{AircraftRow}
use Rattle.mx_base.specs.declared.rows.rows.ComponentRow.{ComponentRow}
use Rattle.mx_base.specs.declared.rows.rows.DeferralRow.{DeferralRow}
use Rattle.mx_base.specs.declared.rows.rows.SectorRow.{SectorRow}
use Rattle.mx_base.specs.rows.Rising.{IsRising}
use Rattle.mx_base.specs.Settled.{settled}
use Rattle.mx_registers.specs.Registers.{aircraft_rows, component_rows, deferral_rows, sector_rows}
use Rattle.mx_registers.proofs.RegisterLemmas.{aircraft_rows-rising, component_rows-rising, deferral_rows-rising, sector_rows-rising}
use Rattle.mx_registers.specs.points.Commits.{commits_of_both_moves}
use Rattle.mx_registers.specs.points.Points.{is_before, steps_from}
use Rattle.mx_registers.specs.declared.points.points.TheConstants.{NEWEST_LAYOUT}
use Rattle.mx_registers.proofs.PointsProofs.CommitLemmas.{before_parts}
use Rattle.mx_registers.proofs.PointsProofs.StepLemmas.{not_zero}
use Rattle.mx_book_tables.specs.stands.Schemas.{IsOfFile, IsUpTo}
use Rattle.mx_book_tables.proofs.StandsProofs.PointLemmas.{and_right}
use Rattle.mx_migrate.specs.settle.Place.{IsBehind}
use Rattle.mx_migrate.specs.settle.Ranks.{points_before, points_in_move}
use Rattle.mx_migrate.proofs.SettleProofs.PlaceLemmas.{number_is}

-- ── in a move ──

-- in a step the points of the steps before it are before a point, and those of lesser marks
begun : (n mark : ℕ) → points_in_move (suc n) mark ≡ 1 + (n * 1000001 + mark)
begun n mark = ap (λ b. cond b 0 (1 + ((suc n - 1) * (MOST_ENTRIES + 1) + mark))) (not_zero (suc n) (omega arith)) ∙ same
  where
    same : 1 + ((suc n - 1) * (MOST_ENTRIES + 1) + mark) ≡ 1 + (n * 1000001 + mark)
    same = omega arith

-- there are no more than the move has
in_step : (step mark last : ℕ) → step ≤ last → mark ≤ MOST_ENTRIES → points_in_move step mark + 1 ≤ 1 + last * 1000001
in_step zero mark last by few = omega arith
in_step (suc n) mark last by few = let is = begun n mark in omega (arith, is, by, few)

-- a further step, and a greater mark, has more before it
further_step : (step mark next later : ℕ) → step < next → mark ≤ MOST_ENTRIES → points_in_move step mark + 1 ≤ points_in_move next later
further_step zero mark zero later less few = absurd (omega arith)
further_step zero mark (suc m) later less few = let is = begun m later in omega (arith, is)
further_step (suc n) mark zero later less few = absurd (omega arith)
further_step (suc n) mark (suc m) later less few = let was = begun n mark in let is = begun m later in omega (arith, was, is, less, few)

greater_mark : (step mark later : ℕ) → 0 < step → mark < later → points_in_move step mark + 1 ≤ points_in_move step later
greater_mark zero mark later some less = absurd (omega arith)
greater_mark (suc n) mark later some less = let was = begun n mark in let is = begun n later in omega (arith, was, is, less)

-- ── points ──

-- the numbers of a point on the way to layout 3, or there
pub record Ranked (at : Point) : Type 0 where
  pub layout : (at.layout ≡ 1) ⊎ ((at.layout ≡ 2) ⊎ (at.layout ≡ 3))
  pub step : at.step ≤ steps_from at.layout
  pub mark : at.mark ≤ MOST_ENTRIES
  pub start : at.step ≡ 0 → at.mark ≡ 0

ranked_before : (newest : ℕ) (at : Point) → is_before newest at ≡ true → Ranked at
ranked_before newest at way =
    let parts = before_parts newest at way in
    let last = steps_from at.layout in
    let start = and_right (nat_le at.mark MOST_ENTRIES) _ (and_right (nat_lt 0 last && nat_le at.step last) _ (and_right (nat_lt at.layout newest) _ way)) in
    record {
      layout = elim parts.1 [ inl one ↦ inl one | inr two ↦ inr (inl two) ];
      step = parts.2.0;
      mark = parts.2.1;
      start = λ none. number_is at.mark 0 (subst (λ (n : ℕ). not (nat_eq n 0) || nat_eq at.mark 0 ≡ true) none start);
    }

ranked_settled : (layout : ℕ) → (layout ≡ 1) ⊎ ((layout ≡ 2) ⊎ (layout ≡ 3)) → Ranked (settled layout)
ranked_settled layout which = record { layout = which; step = omega arith; mark = omega arith; start = λ _. refl }

pub ranked_up_to_3 : (at : Point) → IsUpTo 3 at → Ranked at
ranked_up_to_3 at (inl way) = ranked_before 3 at way
ranked_up_to_3 at (inr is) = subst Ranked (sym is) (ranked_settled 3 (inr (inr refl)))

-- each point that a file can be at is one
pub ranked_of_file : (at : Point) → IsOfFile at → Ranked at
ranked_of_file at (inl way) = ranked_before NEWEST_LAYOUT at way
ranked_of_file at (inr is) = subst Ranked (sym is) (ranked_settled NEWEST_LAYOUT (inr (inl refl)))

-- so many points are before the layouts
first_points : (at : Point) → at.layout ≡ 1 → points_before at ≡ 0 + points_in_move at.step at.mark
first_points at one = ap (λ (layout : ℕ). points_before (record { layout = layout; step = at.step; mark = at.mark })) one

second_points : (at : Point) → at.layout ≡ 2 → points_before at ≡ 4000005 + points_in_move at.step at.mark
second_points at two = ap (λ (layout : ℕ). points_before (record { layout = layout; step = at.step; mark = at.mark })) two

third_points : (at : Point) → at.layout ≡ 3 → points_before at ≡ 6000008 + points_in_move at.step at.mark
third_points at three = ap (λ (layout : ℕ). points_before (record { layout = layout; step = at.step; mark = at.mark })) three

-- a point is in its move
in_first : (at : Point) → Ranked at → at.layout ≡ 1 → points_in_move at.step at.mark + 1 ≤ 4000005
in_first at r one = let low = in_step at.step at.mark 4 (subst (λ l. at.step ≤ steps_from l) one r.step) r.mark in omega (arith, low)

in_second : (at : Point) → Ranked at → at.layout ≡ 2 → points_in_move at.step at.mark + 1 ≤ 2000003
in_second at r two = let low = in_step at.step at.mark 2 (subst (λ l. at.step ≤ steps_from l) two r.step) r.mark in omega (arith, low)

in_third : (at : Point) → Ranked at → at.layout ≡ 3 → points_in_move at.step at.mark ≡ 0
in_third at r three =
    let none : at.step ≡ 0 = (let low : at.step ≤ 0 = subst (λ l. at.step ≤ steps_from l) three r.step in omega (arith, low)) in
    ap (λ step. points_in_move step at.mark) none

-- fewer than so many points are before any
pub ranked_high : (at : Point) → Ranked at → points_before at ≤ 6000008
ranked_high at r = elim r.layout [
  | inl one ↦ (let is = first_points at one in let low = in_first at r one in omega (arith, is, low))
  | inr (inl two) ↦ (let is = second_points at two in let low = in_second at r two in omega (arith, is, low))
  | inr (inr three) ↦ (let is = third_points at three in let none = in_third at r three in omega (arith, is, none))
]

-- of two points the later has more before it
pub rank_rises : (at to : Point) → Ranked at → Ranked to → IsBehind at to → points_before at + 1 ≤ points_before to
rank_rises at to r s (inl newer) = newer_layout r.layout s.layout
  where
    newer_layout : (at.layout ≡ 1) ⊎ ((at.layout ≡ 2) ⊎ (at.layout ≡ 3)) → (to.layout ≡ 1) ⊎ ((to.layout ≡ 2) ⊎ (to.layout ≡ 3)) → points_before at + 1 ≤ points_before to
    newer_layout (inl one) (inl first) = absurd (omega (arith, newer, one, first))
    newer_layout (inl one) (inr (inl second)) = let is = first_points at one in let low = in_first at r one in let to_is = second_points to second in omega (arith, is, low, to_is)
    newer_layout (inl one) (inr (inr third)) = let is = first_points at one in let low = in_first at r one in let to_is = third_points to third in omega (arith, is, low, to_is)
    newer_layout (inr (inl two)) (inl first) = absurd (omega (arith, newer, two, first))
    newer_layout (inr (inl two)) (inr (inl second)) = absurd (omega (arith, newer, two, second))
    newer_layout (inr (inl two)) (inr (inr third)) = let is = second_points at two in let low = in_second at r two in let to_is = third_points to third in omega (arith, is, low, to_is)
    newer_layout (inr (inr three)) (inl first) = absurd (omega (arith, newer, three, first))
    newer_layout (inr (inr three)) (inr (inl second)) = absurd (omega (arith, newer, three, second))
    newer_layout (inr (inr three)) (inr (inr third)) = absurd (omega (arith, newer, three, third))
rank_rises at to r s (inr (layout, later)) = same_layout later
  where
    both : points_in_move at.step at.mark + 1 ≤ points_in_move to.step to.mark → points_before at + 1 ≤ points_before to
    both more = on r.layout
      where
        on : (at.layout ≡ 1) ⊎ ((at.layout ≡ 2) ⊎ (at.layout ≡ 3)) → points_before at + 1 ≤ points_before to
        on (inl one) = let is = first_points at one in let to_is = first_points to (sym layout ∙ one) in omega (arith, is, to_is, more)
        on (inr (inl two)) = let is = second_points at two in let to_is = second_points to (sym layout ∙ two) in omega (arith, is, to_is, more)
        on (inr (inr three)) = let is = third_points at three in let to_is = third_points to (sym layout ∙ three) in omega (arith, is, to_is, more)

    same_layout : (at.step < to.step) ⊎ ((at.step ≡ to.step) × (at.mark < to.mark)) → points_before at + 1 ≤ points_before to
    same_layout (inl further) = both (further_step at.step at.mark to.step to.mark further r.mark)
    same_layout (inr (step, greater)) =
        let some : 0 < to.step = started to.step refl in
        both (subst (λ n. points_in_move n at.mark + 1 ≤ points_in_move to.step to.mark) (sym step) (greater_mark to.step at.mark to.mark some greater))
      where
        started : (n : ℕ) → to.step ≡ n → 0 < to.step
        started zero none = let mark = s.start none in absurd (omega (arith, greater, mark))
        started (suc n) is = omega (arith, is)

-- ── of a book ──

-- rows whose numbers rise are no more than the numbers that they can have
rising_few : {Row : Type 0} (number : Row → ℕ) (low high : ℕ) (rows : List Row) → IsRising number low rows high → low + length rows ≤ high
rising_few number low high [] up = omega (arith, up)
rising_few number low high (row ∷ rows) up = let rest = rising_few number (number row + 1) high rows up.1 in omega (arith, up.0, rest)

pub both_moves_few : (book : List Entry) → IsBook book → commits_of_both_moves book ≤ 8000000
both_moves_few book b =
    let high = length book + 1 in
    let aircraft = rising_few (λ (row : AircraftRow). row.seq) 1 high (aircraft_rows book) (aircraft_rows-rising book b.shaped) in
    let components = rising_few (λ (row : ComponentRow). row.seq) 1 high (component_rows book) (component_rows-rising book b.shaped) in
    let sectors = rising_few (λ (row : SectorRow). row.seq) 1 high (sector_rows book) (sector_rows-rising book b.shaped) in
    let deferrals = rising_few (λ (row : DeferralRow). row.seq) 1 high (deferral_rows book) (deferral_rows-rising book b.shaped) in
    omega (arith, b.few, aircraft, components, sectors, deferrals)
