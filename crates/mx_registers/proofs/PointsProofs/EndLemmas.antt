-- Where a step begins or ends no row moves: every table has the same rows at both points.
use Rattle.std.proofs.Common.{arith, refl, sym, subst, ap, ◌∙◌, ◌≡◌, ◌⊎◌, inl, inr, ℕ, ◌≤◌, ◌<◌, zero, suc, List, Bool, true, false, cond, ◌&&◌, None}
use Rattle.std.specs.Prelude.{nat_le, nat_eq, not}
use Rattle.std.specs.List.{AllByRecursion}
use Rattle.mx_book.specs.commands.Act.{Entry}
use Rattle.mx_book.specs.Book.{IsBook}
use Rattle.mx_book.specs.declared.limits.TheConstants.{MOST_ENTRIES}
use Rattle.mx_registers.proofs.KeptProofs.CreditLemmas.{all_of, filter_on}
use Rattle.mx_base.specs.declared.point.Point.{Point}
use Rattle.mx_registers.specs.points.Points.{is_before, moving, moving_from, next_mark, next_point, next_point_to, on_to, steps_from}
use Rattle.mx_registers.specs.declared.points.points.TheConstants.{NEWEST_LAYOUT}
use Rattle.mx_base.specs.Settled.{settled}
use Rattle.mx_registers.specs.points.Tables.{Line, bases_2, deferrals_2, deferrals_3, done_3, fittings_1, removals_1, sectors_1, sectors_2, spans_2, stands_there, totals_2}
use Rattle.mx_registers.specs.points.Moves.{AllStay, Stays}
use Rattle.mx_registers.proofs.PointsProofs.PointLemmas.{le_false, le_true}
use Rattle.mx_registers.proofs.PointsProofs.StepLemmas.{step_after_to}
use Rattle.mx_registers.proofs.PointsProofs.StayLemmas.{numbers_some, numbers_up_to, of_accomplishments, of_bases, of_components, of_deferrals, of_sectors, of_totals, Accomplishments, Bases, Components, Deferrals, IsSome, Sectors, Totals, UpTo}
use Rattle.mx_registers.proofs.PointsProofs.CommitLemmas.{before_parts}

-- ── one table ──

-- a table stays where each of its rows stands in it at both points or at neither
stays : {Row : Type 0} (P : ℕ → Type 0) (line : Line Row) (at to : Point) (book : List Entry) → ((number : ℕ) → P number → stands_there line to number ≡ stands_there line at number) → AllByRecursion (λ row. P (line.number row)) (line.rows book) → Stays line at to book
stays P line at to book same h =
    filter_on (λ row. stands_there line to (line.number row)) (λ row. stands_there line at (line.number row)) (line.rows book)
    (all_of (λ row. P (line.number row)) (λ row. stands_there line to (line.number row) ≡ stands_there line at (line.number row)) (λ row p. same (line.number row) p) (line.rows book) h)

-- a number is above mark 0
none_yet : (number : ℕ) → IsSome number → nat_le number 0 ≡ false
none_yet number some = le_false number 0 some

-- brought by the step that begins: nothing stands there yet
brought_none : (number : ℕ) → IsSome number → nat_le number 0 && true ≡ false
brought_none number some = ap (λ b. b && true) (none_yet number some)

-- taken by the step that begins: all still stands there
taken_none : (number : ℕ) → IsSome number → not (nat_le number 0) ≡ true
taken_none number some = ap not (none_yet number some)

-- brought by the step that ends: all stands there
brought_all : (mark number : ℕ) → UpTo mark number → true ≡ nat_le number mark && true
brought_all mark number by = sym (ap (λ b. b && true) (le_true number mark by))

-- taken by the step that ends: nothing stands there any more
taken_all : (mark number : ℕ) → UpTo mark number → false ≡ not (nat_le number mark)
taken_all mark number by = sym (ap not (le_true number mark by))

-- ── all tables ──

module _ (book : List Entry) (mark : ℕ) where
  -- the move of sectors begins
  begins : Sectors IsSome book → AllStay (moving 0 mark) (moving 1 0) book
  begins some = record {
    sectors_old = stays IsSome sectors_1 (moving 0 mark) (moving 1 0) book taken_none some;
    sectors_new = stays IsSome sectors_2 (moving 0 mark) (moving 1 0) book brought_none some;
    fittings = refl;
    removals = refl;
    spans = refl;
    totals = refl;
    bases = refl;
    deferrals_old = refl;
    deferrals_new = refl;
    done = refl;
  }

  -- the move of sectors ends, and that of components begins
  ends_1 : Sectors (UpTo mark) book → Components IsSome book → AllStay (moving 1 mark) (moving 2 0) book
  ends_1 h some = record {
    sectors_old = stays (UpTo mark) sectors_1 (moving 1 mark) (moving 2 0) book (taken_all mark) h;
    sectors_new = stays (UpTo mark) sectors_2 (moving 1 mark) (moving 2 0) book (brought_all mark) h;
    fittings = stays IsSome fittings_1 (moving 1 mark) (moving 2 0) book taken_none some.0;
    removals = stays IsSome removals_1 (moving 1 mark) (moving 2 0) book taken_none some.1;
    spans = stays IsSome spans_2 (moving 1 mark) (moving 2 0) book brought_none some.2;
    totals = refl;
    bases = refl;
    deferrals_old = refl;
    deferrals_new = refl;
    done = refl;
  }

  -- the move of components ends, and the writing of totals begins
  ends_2 : Components (UpTo mark) book → Totals IsSome book → AllStay (moving 2 mark) (moving 3 0) book
  ends_2 h some = record {
    sectors_old = refl;
    sectors_new = refl;
    fittings = stays (UpTo mark) fittings_1 (moving 2 mark) (moving 3 0) book (taken_all mark) h.0;
    removals = stays (UpTo mark) removals_1 (moving 2 mark) (moving 3 0) book (taken_all mark) h.1;
    spans = stays (UpTo mark) spans_2 (moving 2 mark) (moving 3 0) book (brought_all mark) h.2;
    totals = stays IsSome totals_2 (moving 2 mark) (moving 3 0) book brought_none some;
    bases = refl;
    deferrals_old = refl;
    deferrals_new = refl;
    done = refl;
  }

  -- the writing of totals ends, and that of bases begins
  ends_3 : Totals (UpTo mark) book → Bases IsSome book → AllStay (moving 3 mark) (moving 4 0) book
  ends_3 h some = record {
    sectors_old = refl;
    sectors_new = refl;
    fittings = refl;
    removals = refl;
    spans = refl;
    totals = stays (UpTo mark) totals_2 (moving 3 mark) (moving 4 0) book (brought_all mark) h;
    bases = stays IsSome bases_2 (moving 3 mark) (moving 4 0) book brought_none some;
    deferrals_old = refl;
    deferrals_new = refl;
    done = refl;
  }

  -- the writing of bases ends
  ends_4 : Bases (UpTo mark) book → AllStay (moving 4 mark) (settled 2) book
  ends_4 h = record {
    sectors_old = refl;
    sectors_new = refl;
    fittings = refl;
    removals = refl;
    spans = refl;
    totals = refl;
    bases = stays (UpTo mark) bases_2 (moving 4 mark) (settled 2) book (brought_all mark) h;
    deferrals_old = refl;
    deferrals_new = refl;
    done = refl;
  }

  -- the move of deferrals begins
  begins_2 : Deferrals IsSome book → AllStay (moving_from 2 0 mark) (moving_from 2 1 0) book
  begins_2 some = record {
    sectors_old = refl;
    sectors_new = refl;
    fittings = refl;
    removals = refl;
    spans = refl;
    totals = refl;
    bases = refl;
    deferrals_old = stays IsSome deferrals_2 (moving_from 2 0 mark) (moving_from 2 1 0) book taken_none some.0;
    deferrals_new = stays IsSome deferrals_3 (moving_from 2 0 mark) (moving_from 2 1 0) book brought_none some.1;
    done = refl;
  }

  -- the move of deferrals ends, and accomplishments begin to come in place of last bases
  ends_21 : Deferrals (UpTo mark) book → Accomplishments IsSome book → AllStay (moving_from 2 1 mark) (moving_from 2 2 0) book
  ends_21 h some = record {
    sectors_old = refl;
    sectors_new = refl;
    fittings = refl;
    removals = refl;
    spans = refl;
    totals = refl;
    bases = stays IsSome bases_2 (moving_from 2 1 mark) (moving_from 2 2 0) book taken_none some.0;
    deferrals_old = stays (UpTo mark) deferrals_2 (moving_from 2 1 mark) (moving_from 2 2 0) book (taken_all mark) h.0;
    deferrals_new = stays (UpTo mark) deferrals_3 (moving_from 2 1 mark) (moving_from 2 2 0) book (brought_all mark) h.1;
    done = stays IsSome done_3 (moving_from 2 1 mark) (moving_from 2 2 0) book brought_none some.1;
  }

  -- these have come
  ends_22 : Accomplishments (UpTo mark) book → AllStay (moving_from 2 2 mark) (settled 3) book
  ends_22 h = record {
    sectors_old = refl;
    sectors_new = refl;
    fittings = refl;
    removals = refl;
    spans = refl;
    totals = refl;
    bases = stays (UpTo mark) bases_2 (moving_from 2 2 mark) (settled 3) book (taken_all mark) h.0;
    deferrals_old = refl;
    deferrals_new = refl;
    done = stays (UpTo mark) done_3 (moving_from 2 2 mark) (settled 3) book (brought_all mark) h.1;
  }

module _ (book : List Entry) (b : IsBook book) (newest : ℕ) where
  abbrev AllStayOn : Point → Type 0
  AllStayOn at = AllStay at (next_point_to newest at book) book

  to_next : (at next : Point) → next_point_to newest at book ≡ next → AllStay at next book → AllStayOn at
  to_next at next goes h = subst (λ p. AllStay at p book) (sym goes) h

  -- nothing is left to move in the step of a point
  abbrev Ends : Point → Type 0
  Ends at = 0 < at.step → next_mark at book ≡ None

  -- a move begins
  begun : (layout mark : ℕ) → is_before newest (moving_from layout 0 mark) ≡ true → AllStay (moving_from layout 0 mark) (moving_from layout 1 0) book → AllStayOn (moving_from layout 0 mark)
  begun layout mark h all = to_next (moving_from layout 0 mark) (moving_from layout 1 0) (ap (λ c. cond c (moving_from layout 1 0) (moving_from layout 0 mark)) h) all

  -- a step ends
  ended : (layout step mark : ℕ) → layout < newest → 0 < step → step ≤ steps_from layout → mark ≤ MOST_ENTRIES → next_mark (moving_from layout step mark) book ≡ None → AllStay (moving_from layout step mark) (on_to (moving_from layout step mark) None) book
      → AllStayOn (moving_from layout step mark)
  ended layout step mark under some last by left all =
      let at = moving_from layout step mark in
      to_next at (on_to at None) (step_after_to newest layout step mark (next_mark at book) under some last by ∙ ap (on_to at) left) all

  -- in the move from layout 1
  first_stays : 1 < newest → (step mark : ℕ) → is_before newest (moving_from 1 step mark) ≡ true → step ≤ 4 → mark ≤ MOST_ENTRIES → Ends (moving_from 1 step mark) → AllStayOn (moving_from 1 step mark)
  first_stays under zero mark h last by none = begun 1 mark h (begins book mark (of_sectors IsSome book b (numbers_some book b 1 1)))
  first_stays under (suc zero) mark h last by none =
      let left = none (omega arith) in
      ended 1 1 mark under (omega arith) (omega arith) by left (ends_1 book mark (of_sectors (UpTo mark) book b (numbers_up_to book (moving_from 1 1 mark) left)) (of_components IsSome book b (numbers_some book b 1 2)))
  first_stays under (suc (suc zero)) mark h last by none =
      let left = none (omega arith) in
      ended 1 2 mark under (omega arith) (omega arith) by left (ends_2 book mark (of_components (UpTo mark) book b (numbers_up_to book (moving_from 1 2 mark) left)) (of_totals IsSome book b (numbers_some book b 1 3)))
  first_stays under (suc (suc (suc zero))) mark h last by none =
      let left = none (omega arith) in
      ended 1 3 mark under (omega arith) (omega arith) by left (ends_3 book mark (of_totals (UpTo mark) book b (numbers_up_to book (moving_from 1 3 mark) left)) (of_bases IsSome book b (numbers_some book b 1 4)))
  first_stays under (suc (suc (suc (suc zero)))) mark h last by none =
      let left = none (omega arith) in
      ended 1 4 mark under (omega arith) (omega arith) by left (ends_4 book mark (of_bases (UpTo mark) book b (numbers_up_to book (moving_from 1 4 mark) left)))
  first_stays under (suc (suc (suc (suc (suc n))))) mark h last by none = absurd (omega arith)

  -- in the move from layout 2
  second_stays : 2 < newest → (step mark : ℕ) → is_before newest (moving_from 2 step mark) ≡ true → step ≤ 2 → mark ≤ MOST_ENTRIES → Ends (moving_from 2 step mark) → AllStayOn (moving_from 2 step mark)
  second_stays under zero mark h last by none = begun 2 mark h (begins_2 book mark (of_deferrals IsSome book b (numbers_some book b 2 1)))
  second_stays under (suc zero) mark h last by none =
      let left = none (omega arith) in
      ended 2 1 mark under (omega arith) (omega arith) by left (ends_21 book mark (of_deferrals (UpTo mark) book b (numbers_up_to book (moving_from 2 1 mark) left)) (of_accomplishments IsSome book b (numbers_some book b 2 2)))
  second_stays under (suc (suc zero)) mark h last by none =
      let left = none (omega arith) in
      ended 2 2 mark under (omega arith) (omega arith) by left (ends_22 book mark (of_accomplishments (UpTo mark) book b (numbers_up_to book (moving_from 2 2 mark) left)))
  second_stays under (suc (suc (suc n))) mark h last by none = absurd (omega arith)

  same_point : (at : Point) → AllStay at at book
  same_point at = record { sectors_old = refl; sectors_new = refl; fittings = refl; removals = refl; spans = refl; totals = refl; bases = refl; deferrals_old = refl; deferrals_new = refl; done = refl }

  -- where a step begins, or has nothing left to move, all tables stay
  pub tables_stay_to : (at : Point) → Ends at → AllStayOn at
  tables_stay_to at none = on (is_before newest at) refl
    where
      from : (at : Point) → Ends at → is_before newest at ≡ true → at.layout < newest → (at.layout ≡ 1) ⊎ (at.layout ≡ 2) → at.step ≤ steps_from at.layout → at.mark ≤ MOST_ENTRIES → AllStayOn at
      from at none h under (inl one) last by =
          let same : at ≡ moving_from 1 at.step at.mark = ap (λ l. moving_from l at.step at.mark) one in
          subst AllStayOn (sym same) (first_stays (subst (λ l. l < newest) one under) at.step at.mark (subst (λ p. is_before newest p ≡ true) same h) (subst (λ l. at.step ≤ steps_from l) one last) by (subst Ends same none))
      from at none h under (inr two) last by =
          let same : at ≡ moving_from 2 at.step at.mark = ap (λ l. moving_from l at.step at.mark) two in
          subst AllStayOn (sym same) (second_stays (subst (λ l. l < newest) two under) at.step at.mark (subst (λ p. is_before newest p ≡ true) same h) (subst (λ l. at.step ≤ steps_from l) two last) by (subst Ends same none))

      on : (c : Bool) → is_before newest at ≡ c → AllStayOn at
      on true e = let parts = before_parts newest at e in from at none e parts.0 parts.1 parts.2.0 parts.2.1
      on false e = to_next at at (ap (λ c. cond c (cond (nat_eq at.step 0) (moving_from at.layout 1 0) (on_to at (next_mark at book))) at) e) (same_point at)

-- the same on the way to the newest layout
pub tables_stay : (book : List Entry) → IsBook book → (at : Point) → (0 < at.step → next_mark at book ≡ None) → AllStay at (next_point at book) book
tables_stay book b at none = tables_stay_to book b NEWEST_LAYOUT at none
