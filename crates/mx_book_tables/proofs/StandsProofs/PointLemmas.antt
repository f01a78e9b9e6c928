-- The points that a file can be at, case by case.
use Rattle.std.proofs.Common.{◌≡◌, ◌∙◌, ◌⊎◌, inl, inr, ℕ, suc, zero, ◌<◌, Bool, true, false, nat_eq, nat_le, nat_lt, ◌&&◌, refl, subst, sym, ap, arith}
use Rattle.std.proofs.lemmas.Bool.Decides.{Decides-eqb, leb_tells}
use Rattle.mx_book.specs.declared.limits.TheConstants.{MOST_ENTRIES}
use Rattle.mx_base.specs.declared.point.Point.{Point}
use Rattle.mx_base.specs.Settled.{settled}
use Rattle.mx_registers.specs.points.Points.{is_before, is_in_move, moving, moving_from, steps_from}
use Rattle.mx_registers.specs.declared.points.points.TheConstants.{NEWEST_LAYOUT}
use Rattle.mx_registers.proofs.PointsProofs.CommitLemmas.{before_parts}
use Rattle.mx_registers.proofs.PointsProofs.StepLemmas.{lt_true}
use Rattle.mx_layout.specs.Steps.{IsLayout}
use Rattle.mx_book_tables.specs.stands.Schemas.{IsOfFile, IsUpTo}

pub and_left : (a b : Bool) → a && b ≡ true → a ≡ true
and_left true b h = refl
and_left false b h = (cc)

pub and_right : (a b : Bool) → a && b ≡ true → b ≡ true
and_right true b h = h
and_right false b h = (cc)

low_enough : {A : Type 0} (a b : ℕ) → b < a → nat_le a b ≡ true → A
low_enough a b above h = elim (leb_tells a b) [ inl t ↦ absurd (omega arith) | inr t ↦ absurd cc ]

-- what holds settled at layout 1, in each step of the move from there at any mark, settled at layout 2, in each step of the move from there, and settled at layout 3, holds wherever a file up to layout 3 can be
module _ (P : Point → Type 0) (first : P (settled 1)) (sectors : (mark : ℕ) → P (moving 1 mark)) (components : (mark : ℕ) → P (moving 2 mark)) (totals : (mark : ℕ) → P (moving 3 mark)) (bases : (mark : ℕ) → P (moving 4 mark))
    (second : P (settled 2)) (deferrals : (mark : ℕ) → P (moving_from 2 1 mark)) (accomplishments : (mark : ℕ) → P (moving_from 2 2 mark)) (third : P (settled 3)) where
  no_mark : (layout mark : ℕ) → is_in_move (moving_from layout 0 mark) ≡ true → P (settled layout) → P (moving_from layout 0 mark)
  no_mark layout mark h at_layout =
      let low = and_right _ _ h in
      subst (λ m. P (moving_from layout 0 m)) (sym ((Decides-eqb mark 0).0 (and_right (nat_le mark MOST_ENTRIES) (nat_eq mark 0) low))) at_layout

  within : (layout step mark : ℕ) → is_in_move (moving_from layout step mark) ≡ true → nat_le step (steps_from layout) ≡ true
  within layout step mark h = and_right (nat_lt 0 (steps_from layout)) _ (and_left _ _ h)

  from_first : (step mark : ℕ) → is_in_move (moving step mark) ≡ true → P (moving step mark)
  from_first zero mark h = no_mark 1 mark h first
  from_first (suc zero) mark h = sectors mark
  from_first (suc (suc zero)) mark h = components mark
  from_first (suc (suc (suc zero))) mark h = totals mark
  from_first (suc (suc (suc (suc zero)))) mark h = bases mark
  from_first (suc (suc (suc (suc (suc step))))) mark h = low_enough (suc (suc (suc (suc (suc step))))) 4 (omega arith) (within 1 (suc (suc (suc (suc (suc step))))) mark h)

  from_second : (step mark : ℕ) → is_in_move (moving_from 2 step mark) ≡ true → P (moving_from 2 step mark)
  from_second zero mark h = no_mark 2 mark h second
  from_second (suc zero) mark h = deferrals mark
  from_second (suc (suc zero)) mark h = accomplishments mark
  from_second (suc (suc (suc step))) mark h = low_enough (suc (suc (suc step))) 2 (omega arith) (within 2 (suc (suc (suc step))) mark h)

  on_way : (at : Point) → is_before 3 at ≡ true → P at
  on_way at h = let parts = before_parts 3 at h in from (and_right _ _ h) parts.1
    where
      from : is_in_move at ≡ true → (at.layout ≡ 1) ⊎ (at.layout ≡ 2) → P at
      from h (inl one) =
          let same : at ≡ moving at.step at.mark = ap (λ l. moving_from l at.step at.mark) one in
          subst P (sym same) (from_first at.step at.mark (subst (λ p. is_in_move p ≡ true) same h))
      from h (inr two) =
          let same : at ≡ moving_from 2 at.step at.mark = ap (λ l. moving_from l at.step at.mark) two in
          subst P (sym same) (from_second at.step at.mark (subst (λ p. is_in_move p ≡ true) same h))

  pub by_point : (at : Point) → IsUpTo 3 at → P at
  by_point at (inl h) = on_way at h
  by_point at (inr is) = subst P (sym is) third

-- a point of a file is one of these
pub file_is_up_to_3 : (at : Point) → IsOfFile at → IsUpTo 3 at
file_is_up_to_3 at (inl h) = inl (both (before_parts NEWEST_LAYOUT at h).0 (and_right _ _ h))
  where
    both : at.layout < NEWEST_LAYOUT → is_in_move at ≡ true → is_before 3 at ≡ true
    both under move = ap (λ b. b && is_in_move at) (lt_true at.layout 3 (omega arith)) ∙ move
file_is_up_to_3 at (inr is) = inl (ap (is_before 3) is)

-- the newest layout is one of those that there are
pub newest_is_layout : IsLayout NEWEST_LAYOUT
newest_is_layout = inr (inl refl)
