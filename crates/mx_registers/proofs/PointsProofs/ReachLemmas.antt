-- Moves reach the layout to which they lead with so many commits.
use Rattle.std.proofs.Common.{refl, map, arith, sym, subst, ap, ◌∙◌, ◌≡◌, ◌⊎◌, inl, inr, ℕ, ◌+◌, ◌<◌, zero, suc, length, List, [], ◌∷◌, ◌++◌, true}
use Rattle.std.proofs.lemmas.List.{length-map}
use Rattle.mx_book.specs.commands.Act.{Act, Entry, Added, Listed}
use Rattle.mx_book.specs.declared.commands.item.Item.{Item}
use Rattle.mx_book.specs.Book.{IsBook}
use Rattle.mx_base.specs.declared.rows.rows.ComponentRow.{ComponentRow}
use Rattle.mx_base.specs.declared.rows.rows.DeferralRow.{DeferralRow}
use Rattle.mx_base.specs.declared.rows.rows.SectorRow.{SectorRow}
use Rattle.mx_registers.specs.Registers.{aircraft_by, component_rows, components_by, deferral_rows, gives_by, sector_rows}
use Rattle.mx_registers.specs.kept.Items.{items, items_by}
use Rattle.mx_registers.specs.points.Commits.{commits_left, commits_of_both_moves, commits_of_move, commits_of_second_move, commits_to, point_behind, point_behind_to, rounds, step_commits}
use Rattle.mx_registers.specs.points.Points.{is_before, is_on_way, next_point_to, numbers_of, size_of}
use Rattle.mx_base.specs.Settled.{settled}
use Rattle.mx_registers.specs.declared.points.points.TheConstants.{NEWEST_LAYOUT}
use Rattle.mx_base.specs.declared.point.Point.{Point}
use Rattle.mx_registers.proofs.PointsProofs.NextLemmas.{self}
use Rattle.mx_registers.proofs.PointsProofs.PointLemmas.{all_above}
use Rattle.mx_registers.proofs.PointsProofs.CommitLemmas.{commit_counts, numbers_rising, GoesTo}

-- ── the end of the way ──

module _ (book : List Entry) (newest : ℕ) (counts : (at : Point) → is_before newest at ≡ true → GoesTo newest book at) where
  abbrev pub ReachesTo : ℕ → Point → Type 0
  ReachesTo n at = (point_behind_to newest n at book ≡ settled newest) × ((k : ℕ) → k < n → is_before newest (point_behind_to newest k at book) ≡ true)

  -- with as many commits as are left a point on the way is behind all of them, and with fewer on the way
  pub reach_to : (n : ℕ) (at : Point) → is_before newest at ≡ true → commits_to newest (settled newest) book ≡ 0 → commits_to newest at book ≡ n → ReachesTo n at
  reach_to zero at h end e = let goes = (counts at h).0 in absurd (omega arith)
  reach_to (suc n) at h end e =
      let goes = counts at h in
      let fewer : commits_to newest (next_point_to newest at book) book ≡ n = let less = goes.0 in omega arith in
      on goes.1 fewer (λ way. reach_to n (next_point_to newest at book) way end fewer)
    where
      on : (is_before newest (next_point_to newest at book) ≡ true) ⊎ (next_point_to newest at book ≡ settled newest) → commits_to newest (next_point_to newest at book) book ≡ n
          → (is_before newest (next_point_to newest at book) ≡ true → ReachesTo n (next_point_to newest at book)) → ReachesTo (suc n) at
      on (inl way) fewer rest = ((rest way).0, each (rest way).1)
        where
          each : ((k : ℕ) → k < n → is_before newest (point_behind_to newest k (next_point_to newest at book) book) ≡ true) → (k : ℕ) → k < suc n → is_before newest (point_behind_to newest k at book) ≡ true
          each rest zero less = h
          each rest (suc k) less = rest k (omega arith)
      on (inr done) fewer rest =
          let none : 0 ≡ n = sym end ∙ sym (ap (λ p. commits_to newest p book) done) ∙ fewer in
          (subst (λ m. point_behind_to newest m (next_point_to newest at book) book ≡ settled newest) none done, first none)
        where
          first : 0 ≡ n → (k : ℕ) → k < suc n → is_before newest (point_behind_to newest k at book) ≡ true
          first none zero less = h
          first none (suc k) less = absurd (omega arith)

-- the same on the way to the newest layout
abbrev pub Reaches : List Entry → ℕ → Point → Type 0
Reaches book n at = (point_behind n at book ≡ settled NEWEST_LAYOUT) × ((k : ℕ) → k < n → is_on_way (point_behind k at book) ≡ true)

pub reach : (book : List Entry) → IsBook book → (n : ℕ) (at : Point) → is_on_way at ≡ true → commits_left at book ≡ n → Reaches book n at
reach book b n at h e = reach_to book NEWEST_LAYOUT (commit_counts book b) n at h refl e

-- ── how many they are ──

rounds_1 : (n : ℕ) → rounds 1 n ≡ n
rounds_1 n = omega arith

-- an item is an aircraft or a component
items_count : (before later : List Entry) → length (gives_by items_by before later) ≡ length (gives_by aircraft_by before later) + length (gives_by components_by before later)
items_count before [] = omega arith
items_count before (x ∷ later) = at x.act (items_count (before ++ x ∷ []) later)
  where
    at : (act : Act) → length (gives_by items_by (before ++ x ∷ []) later) ≡ length (gives_by aircraft_by (before ++ x ∷ []) later) + length (gives_by components_by (before ++ x ∷ []) later)
        → length (items_by before act ++ gives_by items_by (before ++ x ∷ []) later) ≡ length (aircraft_by before act ++ gives_by aircraft_by (before ++ x ∷ []) later) + length (components_by before act ++ gives_by components_by (before ++ x ∷ []) later)
    at (Added a positions) h = omega arith
    at (Listed c) h = omega arith
    at _ h = h

module _ (book : List Entry) (b : IsBook book) where
  -- at mark 0 all is left
  whole : (layout step : ℕ) → step_commits layout step 0 book ≡ rounds (size_of step) (length (numbers_of layout step book)) + 1
  whole layout step = ap (λ l. rounds (size_of step) (length l) + 1) (all_above self 0 1 (length book + 1) (numbers_of layout step book) (omega arith) (numbers_rising book b layout step))

  -- a step that moves by all items
  all_items : (layout step : ℕ) → size_of step ≡ 1 → numbers_of layout step book ≡ map (λ (x : ℕ × Item). x.0) (items book) → step_commits layout step 0 book ≡ length (items book) + 1
  all_items layout step one of =
      whole layout step ∙ ap (λ size. rounds size (length (numbers_of layout step book)) + 1) one
      ∙ ap (λ n. n + 1) (rounds_1 (length (numbers_of layout step book)) ∙ ap length of ∙ length-map (items book) (λ (x : ℕ × Item). x.0))

  -- from layout 1, on the way to layout 2, the commits left are those of the move
  pub from_first : commits_to 2 (settled 1) book ≡ commits_of_move book
  from_first =
      let sectors : step_commits 1 1 0 book ≡ rounds 64 (length (sector_rows book)) + 1 = whole 1 1 ∙ ap (λ n. rounds 64 n + 1) (length-map (sector_rows book) (λ (row : SectorRow). row.seq)) in
      let components : step_commits 1 2 0 book ≡ length (component_rows book) + 1 = whole 1 2 ∙ ap (λ n. n + 1) (rounds_1 (length (numbers_of 1 2 book)) ∙ length-map (component_rows book) (λ (row : ComponentRow). row.seq)) in
      let count = items_count [] book in
      let totals = all_items 1 3 refl refl in
      let bases = all_items 1 4 refl refl in
      omega arith

  -- and from layout 2, on the way to layout 3, those of the second move
  pub from_second : commits_to 3 (settled 2) book ≡ commits_of_second_move book
  from_second =
      let deferrals : step_commits 2 1 0 book ≡ rounds 64 (length (deferral_rows book)) + 1 = whole 2 1 ∙ ap (λ n. rounds 64 n + 1) (length-map (deferral_rows book) (λ (row : DeferralRow). row.seq)) in
      let count = items_count [] book in
      let done = all_items 2 2 refl refl in
      omega arith

  -- from layout 1 on the way to layout 3 those of both
  pub from_first_on : commits_to 3 (settled 1) book ≡ commits_of_both_moves book
  from_first_on =
      let first = from_first in
      let second = from_second in
      omega arith
