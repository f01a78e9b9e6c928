-- Each commit of a move leaves one commit less.
use Rattle.std.proofs.Common.{arith, refl, sym, subst, ap, ◌∙◌, ◌≡◌, ◌⊎◌, inl, inr, ℕ, ◌+◌, ◌-◌, ◌≤◌, ◌<◌, zero, suc, length, List, [], ◌∷◌, Bool, true, false, cond, ◌&&◌, ◌||◌, Some, None, take, length-drop}
use Rattle.std.specs.Prelude.{nat_le, nat_lt, nat_eq, filter, fold, map, not}
use Rattle.std.proofs.lemmas.Bool.Decides.{Decides-eqb, nat_tests}
use Rattle.mx_book.specs.commands.Act.{Entry}
use Rattle.mx_book.specs.Book.{IsBook}
use Rattle.mx_book.specs.Programme.{last_of}
use Rattle.mx_book.specs.declared.limits.TheConstants.{MOST_ENTRIES}
use Rattle.mx_book.proofs.JudgeLemmas.{both_true}
use Rattle.mx_base.specs.rows.Rising.{IsRising}
use Rattle.mx_base.specs.declared.rows.rows.ComponentRow.{ComponentRow}
use Rattle.mx_base.specs.declared.rows.rows.DeferralRow.{DeferralRow}
use Rattle.mx_base.specs.declared.rows.rows.SectorRow.{SectorRow}
use Rattle.mx_registers.specs.Registers.{component_rows, deferral_rows, sector_rows}
use Rattle.mx_registers.proofs.RegisterLemmas.{component_rows-rising, deferral_rows-rising, sector_rows-rising}
use Rattle.mx_book.specs.declared.commands.item.Item.{Item}
use Rattle.mx_registers.specs.kept.Items.{items}
use Rattle.mx_registers.proofs.KeptProofs.ItemOrder.{items_from}
use Rattle.mx_registers.specs.points.Commits.{commits_to, later_commits, later_moves, rounds, step_commits}
use Rattle.mx_registers.specs.points.Moves.{last_moved}
use Rattle.mx_registers.specs.points.Points.{is_before, is_in_move, is_on_way, moving_from, next_mark, next_point_to, numbers_left, numbers_of, on_to, size_of, steps_from}
use Rattle.mx_registers.specs.declared.points.points.TheConstants.{NEWEST_LAYOUT}
use Rattle.mx_base.specs.Settled.{settled}
use Rattle.mx_base.specs.declared.point.Point.{Point}
use Rattle.mx_registers.proofs.PointsProofs.NextLemmas.{numbers_rise, self}
use Rattle.mx_registers.proofs.PointsProofs.PointLemmas.{above, left_less}
use Rattle.mx_registers.proofs.PointsProofs.StepLemmas.{mark_bound, not_zero, rising_bound, step_after_to, step_before}

-- ── how many times 64 and 1 go into a number ──

abbrev pub IsCut : ℕ → Type 0
IsCut size = (rounds size 0 ≡ 0) × ((n : ℕ) → 0 < n → rounds size n ≡ rounds size (n - size) + 1)

cut_64 : IsCut 64
cut_64 = (refl, λ n some. omega arith)

cut_1 : IsCut 1
cut_1 = (refl, λ n some. omega arith)

-- ── what is left of a step ──

pub last_self : (mark : ℕ) (xs : List ℕ) → fold (λ before n. Some n) (Some mark) xs ≡ Some (last_moved self mark xs)
last_self mark [] = refl
last_self mark (x ∷ xs) = last_self x xs

last_below : (p : ℕ → Bool) (mark low high n : ℕ) (xs : List ℕ) → mark < high → IsRising self low xs high → last_moved self mark (take n (filter p xs)) < high
last_below p mark low high zero xs h up = h
last_below p mark low high (suc n) [] h up = h
last_below p mark low high (suc n) (x ∷ xs) h up =
    let rest = rising_bound self (x + 1) high xs up.1 in
    let bound : x < high = omega arith in
    at (p x) (last_below p x (x + 1) high n xs bound up.1) (last_below p mark (x + 1) high (suc n) xs h up.1)
  where
    at : (b : Bool) → last_moved self x (take n (filter p xs)) < high → last_moved self mark (take (suc n) (filter p xs)) < high → last_moved self mark (take (suc n) (cond b (x ∷ filter p xs) (filter p xs))) < high
    at true h k = h
    at false h k = k

-- the numbers that each step moves by rise
pub numbers_rising : (book : List Entry) → IsBook book → (layout step : ℕ) → IsRising self 1 (numbers_of layout step book) (length book + 1)
numbers_rising book b layout step = at (nat_eq step 1) (nat_eq layout 1) (nat_eq layout 1 && nat_eq step 2)
  where
    sum : 1 + length book ≡ length book + 1
    sum = omega arith

    at : (one first two : Bool)
        → IsRising self 1 (cond one (cond first (map (λ (row : SectorRow). row.seq) (sector_rows book)) (map (λ (row : DeferralRow). row.seq) (deferral_rows book))) (cond two (map (λ (row : ComponentRow). row.seq) (component_rows book)) (map (λ (x : ℕ × Item). x.0) (items book)))) (length book + 1)
    at true true two = numbers_rise (λ (row : SectorRow). row.seq) 1 (length book + 1) (sector_rows book) (sector_rows-rising book b.shaped)
    at true false two = numbers_rise (λ (row : DeferralRow). row.seq) 1 (length book + 1) (deferral_rows book) (deferral_rows-rising book b.shaped)
    at false first true = numbers_rise (λ (row : ComponentRow). row.seq) 1 (length book + 1) (component_rows book) (component_rows-rising book b.shaped)
    at false first false = subst (λ (n : ℕ). IsRising self 1 (map (λ (x : ℕ × Item). x.0) (items book)) n) sum (numbers_rise (λ (x : ℕ × Item). x.0) 1 (1 + length book) (items book) (items_from [] book))

-- ── one commit within a step ──

-- the commit at a point leaves one less until a file has this layout, and goes to a point on the way there or to that layout
abbrev pub GoesTo : ℕ → List Entry → Point → Type 0
GoesTo newest book at = (commits_to newest at book ≡ commits_to newest (next_point_to newest at book) book + 1) × ((is_before newest (next_point_to newest at book) ≡ true) ⊎ (next_point_to newest at book ≡ settled newest))

-- the same until it has the newest layout
abbrev pub Goes : List Entry → Point → Type 0
Goes book at = GoesTo NEWEST_LAYOUT book at

add_up : (a c l m now next : ℕ) → now ≡ ((a + 1) + l) + m → next ≡ ((c + 1) + l) + m → a ≡ c + 1 → now ≡ next + 1
add_up a c l m now next h k e = omega arith

module _ (book : List Entry) (b : IsBook book) (newest layout step : ℕ) (under : layout < newest) (some : 0 < step) (last : step ≤ steps_from layout) where
  -- the commits behind those of the step
  abbrev behind : ℕ
  behind = later_commits layout step book

  abbrev moves : ℕ
  moves = later_moves newest layout book

  -- the commits left at a point of the step
  pub left_at : (mark : ℕ) → mark ≤ MOST_ENTRIES → commits_to newest (moving_from layout step mark) book ≡ (step_commits layout step mark book + behind) + moves
  left_at mark by =
      ap (λ c. cond c ((cond (nat_eq step 0) 1 (step_commits layout step mark book) + behind) + moves) 0) (step_before newest layout step mark under some last by)
      ∙ ap (λ c. (cond c 1 (step_commits layout step mark book) + behind) + moves) (not_zero step some)

  module _ (mark : ℕ) (by : mark ≤ MOST_ENTRIES) (j : ℕ) (size : size_of step ≡ suc j) (cut : IsCut (size_of step)) where
    abbrev left : List ℕ
    left = numbers_left layout step mark book

    abbrev batch : List ℕ
    batch = take (size_of step) left

    -- where something is left, the commit moves it
    moved_on : (y : ℕ) (rest : List ℕ) → left ≡ y ∷ rest → GoesTo newest book (moving_from layout step mark)
    moved_on y rest e =
        let at = moving_from layout step mark in
        let high = length book + 1 in
        let xs = numbers_of layout step book in
        let up = numbers_rising book b layout step in
        let head : batch ≡ y ∷ take j rest = ap (λ n. take n left) size ∙ ap (take (suc j)) e in
        let to = last_moved self mark batch in
        let below : to < high = last_below (above self mark) mark 1 high (size_of step) xs (mark_bound self mark 1 high (size_of step) xs y (take j rest) up head) up in
        let few : to ≤ MOST_ENTRIES = omega (arith, b.few) in
        let goes : next_mark at book ≡ Some to = ap last_of head ∙ last_self y (take j rest) ∙ ap (λ l. Some (last_moved self mark l)) (sym head) in
        let next : next_point_to newest at book ≡ moving_from layout step to = step_after_to newest layout step mark (next_mark at book) under some last by ∙ ap (on_to at) goes in
        let fewer : length (numbers_left layout step to book) ≡ length left - size_of step = ap length (left_less self mark 1 high (size_of step) xs up) ∙ length-drop (size_of step) left in
        let long : 0 < length left = let n = ap length e in omega arith in (
          add_up (rounds (size_of step) (length left)) (rounds (size_of step) (length (numbers_left layout step to book))) behind moves
              (commits_to newest at book) (commits_to newest (next_point_to newest at book) book)
              (left_at mark by) (ap (λ p. commits_to newest p book) next ∙ left_at to few)
              (cut.1 (length left) long ∙ ap (λ n. rounds (size_of step) n + 1) (sym fewer)),
          inl (ap (is_before newest) next ∙ step_before newest layout step to under some last few),
        )

    -- where nothing is left, the commit ends the step
    pub ended : left ≡ [] → (next_point_to newest (moving_from layout step mark) book ≡ on_to (moving_from layout step mark) None) × (commits_to newest (moving_from layout step mark) book ≡ ((0 + 1) + behind) + moves)
    ended e =
        let at = moving_from layout step mark in
        let goes : next_mark at book ≡ None = ap (λ n. last_of (take n left)) size ∙ ap (λ l. last_of (take (suc j) l)) e in (
          step_after_to newest layout step mark (next_mark at book) under some last by ∙ ap (on_to at) goes,
          left_at mark by ∙ ap (λ l. ((rounds (size_of step) (length l) + 1) + behind) + moves) e ∙ ap (λ n. ((n + 1) + behind) + moves) cut.0,
        )

    -- each commit at a point of the step leaves one less, if that which ends the step does
    pub one_less : (left ≡ [] → GoesTo newest book (moving_from layout step mark)) → GoesTo newest book (moving_from layout step mark)
    one_less last_one = at left refl
      where
        at : (l : List ℕ) → left ≡ l → GoesTo newest book (moving_from layout step mark)
        at [] e = last_one e
        at (y ∷ rest) e = moved_on y rest e

-- ── a commit at any point on the way ──

module _ (book : List Entry) (b : IsBook book) (newest : ℕ) where
  -- what the commit at a point leads to
  abbrev Leads : Point → Type 0
  Leads next = (is_before newest next ≡ true) ⊎ (next ≡ settled newest)

  -- the commit that ends a step, or begins a move
  ends : (at next : Point) (later : ℕ) → next_point_to newest at book ≡ next → commits_to newest at book ≡ 1 + later → commits_to newest next book ≡ later → Leads next → GoesTo newest book at
  ends at next later goes now rest which = let same = ap (λ p. commits_to newest p book) goes in (omega arith, to which)
    where
      to : Leads next → Leads (next_point_to newest at book)
      to (inl way) = inl (ap (is_before newest) goes ∙ way)
      to (inr done) = inr (goes ∙ done)

  -- the move from a layout begins with its first step
  begins : (layout mark : ℕ) (under : layout < newest) → 1 ≤ steps_from layout → is_before newest (moving_from layout 0 mark) ≡ true
      → later_commits layout 0 book ≡ step_commits layout 1 0 book + later_commits layout 1 book → GoesTo newest book (moving_from layout 0 mark)
  begins layout mark under last h split =
      let at = moving_from layout 0 mark in
      let next = moving_from layout 1 0 in
      let moves = later_moves newest layout book in
      let now = ap (λ c. cond c ((1 + later_commits layout 0 book) + moves) 0) h in
      let goes : next_point_to newest at book ≡ next = ap (λ c. cond c next at) h in
      let more = left_at book b newest layout 1 under (omega arith) last 0 (omega arith) in
      ends at next (later_commits layout 0 book + moves) goes (omega arith) (omega arith) (inl (step_before newest layout 1 0 under (omega arith) last (omega arith)))

  -- a commit in a step behind which the move has another
  within : (layout step mark : ℕ) (under : layout < newest) (some : 0 < step) (last : step + 1 ≤ steps_from layout) (by : mark ≤ MOST_ENTRIES) (j : ℕ) → size_of step ≡ suc j → IsCut (size_of step)
      → on_to (moving_from layout step mark) None ≡ moving_from layout (step + 1) 0
      → later_commits layout step book ≡ step_commits layout (step + 1) 0 book + later_commits layout (step + 1) book → GoesTo newest book (moving_from layout step mark)
  within layout step mark under some last by j size cut on split =
      let here : step ≤ steps_from layout = omega (arith, last) in
      let moves = later_moves newest layout book in
      one_less book b newest layout step under some here mark by j size cut (λ e.
      let end = ended book b newest layout step under some here mark by j size cut e in
      let more = left_at book b newest layout (step + 1) under (omega arith) last 0 (omega arith) in
      ends (moving_from layout step mark) (moving_from layout (step + 1) 0) (later_commits layout step book + moves) (end.0 ∙ on) (omega (arith, end.1)) (omega arith) (inl (step_before newest layout (step + 1) 0 under (omega arith) last (omega arith))))

  -- a commit in the last step of a move
  at_last : (layout step mark : ℕ) (under : layout < newest) (some : 0 < step) (last : step ≤ steps_from layout) (by : mark ≤ MOST_ENTRIES) → size_of step ≡ 1 → IsCut (size_of step)
      → on_to (moving_from layout step mark) None ≡ settled (layout + 1) → later_commits layout step book ≡ 0
      → commits_to newest (settled (layout + 1)) book ≡ later_moves newest layout book → Leads (settled (layout + 1)) → GoesTo newest book (moving_from layout step mark)
  at_last layout step mark under some last by size cut on none rest which =
      one_less book b newest layout step under some last mark by 0 size cut (λ e.
      let end = ended book b newest layout step under some last mark by 0 size cut e in
      ends (moving_from layout step mark) (settled (layout + 1)) (later_moves newest layout book) (end.0 ∙ on) (omega (arith, end.1)) rest which)

  -- the move from layout 1, whatever comes behind it
  first_move : (under : 1 < newest) → commits_to newest (settled 2) book ≡ later_moves newest 1 book → Leads (settled 2)
      → (step mark : ℕ) → is_before newest (moving_from 1 step mark) ≡ true → step ≤ 4 → mark ≤ MOST_ENTRIES → GoesTo newest book (moving_from 1 step mark)
  first_move under rest which zero mark h last by = begins 1 mark under (omega arith) h (omega arith)
  first_move under rest which (suc zero) mark h last by = within 1 1 mark under (omega arith) (omega arith) by 63 refl cut_64 refl (omega arith)
  first_move under rest which (suc (suc zero)) mark h last by = within 1 2 mark under (omega arith) (omega arith) by 0 refl cut_1 refl (omega arith)
  first_move under rest which (suc (suc (suc zero))) mark h last by = within 1 3 mark under (omega arith) (omega arith) by 0 refl cut_1 refl (omega arith)
  first_move under rest which (suc (suc (suc (suc zero)))) mark h last by = at_last 1 4 mark under (omega arith) (omega arith) by refl cut_1 refl refl rest which
  first_move under rest which (suc (suc (suc (suc (suc n))))) mark h last by = absurd (omega arith)

  -- the move from layout 2, whatever comes behind it
  second_move : (under : 2 < newest) → commits_to newest (settled 3) book ≡ later_moves newest 2 book → Leads (settled 3)
      → (step mark : ℕ) → is_before newest (moving_from 2 step mark) ≡ true → step ≤ 2 → mark ≤ MOST_ENTRIES → GoesTo newest book (moving_from 2 step mark)
  second_move under rest which zero mark h last by = begins 2 mark under (omega arith) h (omega arith)
  second_move under rest which (suc zero) mark h last by = within 2 1 mark under (omega arith) (omega arith) by 63 refl cut_64 refl (omega arith)
  second_move under rest which (suc (suc zero)) mark h last by = at_last 2 2 mark under (omega arith) (omega arith) by refl cut_1 refl refl rest which
  second_move under rest which (suc (suc (suc n))) mark h last by = absurd (omega arith)

-- ── where a point on the way is ──

-- the step is one of the move, and the mark one that an entry can have
abbrev pub IsPart : Point → Type 0
IsPart at = (at.step ≤ steps_from at.layout) × (at.mark ≤ MOST_ENTRIES)

by_le : (n m : ℕ) → nat_le n m ≡ true → n ≤ m
by_le n m e = grind (arith, nat_tests)

by_lt : (n m : ℕ) → nat_lt n m ≡ true → n < m
by_lt n m e = grind (arith, nat_tests)

-- a move leads from layout 1 or from layout 2
from_one_or_two : (layout : ℕ) → 0 < steps_from layout → (layout ≡ 1) ⊎ (layout ≡ 2)
from_one_or_two layout h = at (nat_eq layout 1) (nat_eq layout 2) refl refl h
  where
    at : (one two : Bool) → nat_eq layout 1 ≡ one → nat_eq layout 2 ≡ two → 0 < cond one 4 (cond two 2 0) → (layout ≡ 1) ⊎ (layout ≡ 2)
    at true two e f h = inl ((Decides-eqb layout 1).0 e)
    at false true e f h = inr ((Decides-eqb layout 2).0 f)
    at false false e f h = absurd (omega (arith, h))

pub move_parts : (at : Point) → is_in_move at ≡ true → ((at.layout ≡ 1) ⊎ (at.layout ≡ 2)) × IsPart at
move_parts at h =
    let last = steps_from at.layout in
    let two = both_true (nat_lt 0 last && nat_le at.step last) (nat_le at.mark MOST_ENTRIES && (not (nat_eq at.step 0) || nat_eq at.mark 0)) h in
    let one = both_true (nat_lt 0 last) (nat_le at.step last) two.0 in
    let mark = both_true (nat_le at.mark MOST_ENTRIES) (not (nat_eq at.step 0) || nat_eq at.mark 0) two.1 in
    (from_one_or_two at.layout (by_lt 0 last one.0), (by_le at.step last one.1, by_le at.mark MOST_ENTRIES mark.0))

pub before_parts : (newest : ℕ) (at : Point) → is_before newest at ≡ true → (at.layout < newest) × ((at.layout ≡ 1) ⊎ (at.layout ≡ 2)) × IsPart at
before_parts newest at h =
    let two = both_true (nat_lt at.layout newest) (is_in_move at) h in
    let move = move_parts at two.1 in
    (by_lt at.layout newest two.0, move.0, move.1)

module _ (book : List Entry) (b : IsBook book) where
  -- each commit at a point on the way to layout 2 leaves one less, and goes on
  pub counts_to_2 : (at : Point) → is_before 2 at ≡ true → GoesTo 2 book at
  counts_to_2 at h =
      let parts = before_parts 2 at h in
      from at h parts.1 parts.2.0 parts.2.1 parts.0
    where
      from : (at : Point) → is_before 2 at ≡ true → (at.layout ≡ 1) ⊎ (at.layout ≡ 2) → at.step ≤ steps_from at.layout → at.mark ≤ MOST_ENTRIES → at.layout < 2 → GoesTo 2 book at
      from at h (inl one) last by under =
          let same : at ≡ moving_from 1 at.step at.mark = ap (λ l. moving_from l at.step at.mark) one in
          subst (GoesTo 2 book) (sym same)
          (first_move book b 2 (omega arith) refl (inr refl) at.step at.mark (subst (λ p. is_before 2 p ≡ true) same h) (subst (λ l. at.step ≤ steps_from l) one last) by)
      from at h (inr two) last by under = absurd (omega arith)

  -- the same on the way to layout 3
  pub counts_to_3 : (at : Point) → is_before 3 at ≡ true → GoesTo 3 book at
  counts_to_3 at h =
      let parts = before_parts 3 at h in
      from at h parts.1 parts.2.0 parts.2.1
    where
      from : (at : Point) → is_before 3 at ≡ true → (at.layout ≡ 1) ⊎ (at.layout ≡ 2) → at.step ≤ steps_from at.layout → at.mark ≤ MOST_ENTRIES → GoesTo 3 book at
      from at h (inl one) last by =
          let same : at ≡ moving_from 1 at.step at.mark = ap (λ l. moving_from l at.step at.mark) one in
          subst (GoesTo 3 book) (sym same)
          (first_move book b 3 (omega arith) (omega arith) (inl refl) at.step at.mark (subst (λ p. is_before 3 p ≡ true) same h) (subst (λ l. at.step ≤ steps_from l) one last) by)
      from at h (inr two) last by =
          let same : at ≡ moving_from 2 at.step at.mark = ap (λ l. moving_from l at.step at.mark) two in
          subst (GoesTo 3 book) (sym same)
          (second_move book b 3 (omega arith) refl (inr refl) at.step at.mark (subst (λ p. is_before 3 p ≡ true) same h) (subst (λ l. at.step ≤ steps_from l) two last) by)

  -- and so on the way to either
  pub counts_to : (newest : ℕ) → 2 ≤ newest → newest ≤ 3 → (at : Point) → is_before newest at ≡ true → GoesTo newest book at
  counts_to newest low high at h = by (nat_eq newest 2) refl
    where
      by : (b : Bool) → nat_eq newest 2 ≡ b → GoesTo newest book at
      by true e = let two = (Decides-eqb newest 2).0 e in subst (λ n. GoesTo n book at) (sym two) (counts_to_2 at (subst (λ n. is_before n at ≡ true) two h))
      by false e =
          let three : newest ≡ 3 = grind (arith, nat_tests) in
          subst (λ n. GoesTo n book at) (sym three) (counts_to_3 at (subst (λ n. is_before n at ≡ true) three h))

  -- each commit at a point on the way to the newest layout leaves one less, and goes on
  pub commit_counts : (at : Point) → is_on_way at ≡ true → Goes book at
  commit_counts at h = counts_to NEWEST_LAYOUT (omega arith) (omega arith) at h
