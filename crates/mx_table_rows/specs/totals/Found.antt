-- The cycles at which defects were found, and what becomes of the rows of `defect3` when cycles are added to them.
use Rattle.std.specs.Prelude.{◌≡◌, ◌≤◌, ℕ, ◌+◌, pos, Bool, false, not, nat_lt, List, ◌∷◌, map, filter, All, IsPermutation, ◌&&◌}
use Rattle.sqlite.specs.declared.types.Value.{Value}
use Rattle.sqlite.specs.declared.types.Value.TheVariants.{Int}
use Rattle.sqlite.specs.Order.{Row, column}
use Rattle.mx_base.specs.declared.rows.rows.Deferral3Row.{Deferral3Row}
use Rattle.mx_layout.specs.kept.Cells.{kept_defect3}
use Rattle.mx_layout.specs.Reading.{HasOther}
use Rattle.mx_table_rows.specs.chosen.Choices.{has_value}
use Rattle.mx_table_rows.specs.totals.Totals.{number_with}
use Rattle.mx_table_rows.specs.declared.totals.lives.TheConstants.{MOST_CYCLES}

-- the value is a number that is not below this one
abbrev pub is_from : ℕ → Value → Bool
is_from least (Int (pos n)) = not (nat_lt n least)
is_from least value = false

-- the row is that of a defect of this aircraft
abbrev pub is_of_aircraft : ℕ → Row → Bool
is_of_aircraft aircraft row = has_value 1 (Int (pos aircraft)) row

-- the row is that of a defect of this aircraft that was found at this moment or later
abbrev pub is_found_from : ℕ → ℕ → Row → Bool
is_found_from aircraft landed row = is_of_aircraft aircraft row && is_from landed (column row 2)

-- the row of a defect, found at so many cycles more
abbrev pub found_later : ℕ → Row → Row
found_later cycles (seq ∷ aircraft ∷ moment ∷ reference ∷ category ∷ days ∷ within ∷ found ∷ rest) = seq ∷ aircraft ∷ moment ∷ reference ∷ category ∷ days ∷ within ∷ number_with cycles found ∷ rest
found_later cycles row = row

-- the defect was found at this moment or later
abbrev pub was_found_from : ℕ → Deferral3Row → Bool
was_found_from landed x = not (nat_lt x.deferral.moment landed)

-- the defect, found at so many cycles more
abbrev pub found_with : ℕ → Deferral3Row → Deferral3Row
found_with cycles x = record x { found_cycles = x.found_cycles + cycles }

-- where the defect was found at this moment or later, so many cycles more are no more than those of a life
abbrev pub CanGain : ℕ → ℕ → Deferral3Row → Type 0
CanGain cycles landed x = landed ≤ x.deferral.moment → x.found_cycles + cycles ≤ MOST_CYCLES

-- the row is that of a defect that can be read, and can be found at so many cycles more
pub record CanShift (cycles landed : ℕ) (row : Row) : Type 0 where
  pub defect : Deferral3Row
  pub fits : kept_defect3.Fits defect
  pub is : row ≡ kept_defect3.as_cells defect
  pub can : CanGain cycles landed defect

-- each defect of the aircraft among the rows can be
abbrev pub AllCanShift : ℕ → ℕ → ℕ → List Row → Type 0
AllCanShift aircraft cycles landed rows = All (CanShift cycles landed) (filter (is_of_aircraft aircraft) rows)

-- a defect of the aircraft among the rows can't be
abbrev pub OneCantShift : ℕ → ℕ → ℕ → List Row → Type 0
OneCantShift aircraft cycles landed rows = HasOther (CanShift cycles landed) (filter (is_of_aircraft aircraft) rows)

-- those of some defects that were found at this moment or later, each at so many cycles more
pub record AreGained (cycles landed : ℕ) (defects shifted : List Deferral3Row) : Type 0 where
  pub can : All (CanGain cycles landed) defects
  pub are : shifted ≡ map (found_with cycles) (filter (was_found_from landed) defects)

-- those of the defects of the aircraft among the rows that were found at this moment or later, each at so many cycles more
pub record AreShifted (aircraft cycles landed : ℕ) (rows : List Row) (shifted : List Deferral3Row) : Type 0 where
  pub defects : List Deferral3Row
  pub fit : All kept_defect3.Fits defects
  pub those : IsPermutation (filter (is_of_aircraft aircraft) rows) (map kept_defect3.as_cells defects)
  pub gained : AreGained cycles landed defects shifted

-- the row is that of the entry that deferred the defect
abbrev pub is_own_defect : Deferral3Row → Row → Bool
is_own_defect x row = has_value 0 (Int (pos x.deferral.seq)) row
