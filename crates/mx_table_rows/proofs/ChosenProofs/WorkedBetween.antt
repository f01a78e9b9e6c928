-- Worked rows: sectors of an aircraft between two take-offs, counted by hand.
use Rattle.std.proofs.Common.{◌≡◌, ℕ, pos, false, [], ◌∷◌, filter, List, refl}
use Rattle.sqlite.specs.declared.types.Value.TheVariants.{Int, Null}
use Rattle.sqlite.specs.Order.{Row}
use Rattle.sqlite_sql.specs.Ops.{binary}
use Rattle.sqlite_value.specs.Order.{value_cmp}
use lib.Ieee.{is_nan, lt}
use Rattle.mx_table_rows.specs.chosen.Choices.{is_below, is_between}
use Rattle.mx_table_rows.specs.chosen.Texts.{between}

-- the sector with a number, of an aircraft, that takes off at a moment and lands 60 minutes later
abbrev sector : ℕ → ℕ → ℕ → ℕ → Row
sector seq aircraft off on = Int (pos seq) ∷ Int (pos aircraft) ∷ Int (pos 12) ∷ Int (pos 1) ∷ Int (pos off) ∷ Int (pos on) ∷ Int (pos 1) ∷ []

abbrev sectors : List Row
sectors = sector 10 5 600 660 ∷ sector 11 6 700 760 ∷ sector 12 5 700 760 ∷ sector 13 5 800 860 ∷ sector 14 5 900 960 ∷ []

-- the first bound itself and not the second, and no other aircraft
those_between : filter (is_between 1 (Int (pos 5)) 4 (Int (pos 600)) (Int (pos 900))) sectors ≡ sector 10 5 600 660 ∷ sector 12 5 700 760 ∷ sector 13 5 800 860 ∷ []
unfolding binary value_cmp is_nan lt
those_between = refl

by_given_values : filter (between 1 4 (Int (pos 5) ∷ Int (pos 600) ∷ Int (pos 900) ∷ [])) sectors ≡ sector 10 5 600 660 ∷ sector 12 5 700 760 ∷ sector 13 5 800 860 ∷ []
unfolding binary value_cmp is_nan lt
by_given_values = refl

-- nothing is below what is not there
nothing_below : is_below 4 Null (sector 10 5 600 660) ≡ false
unfolding binary value_cmp is_nan lt
nothing_below = refl
