-- Items and their totals by their numbers, over any rows.
-- The totals of a command are said as a set (`AreTotalsOf`), since each comes in place of its own row: each has one of
-- the numbers and is what that number has, and each number that has one has it there. A number of which no aircraft and
-- no component is there has no total, and none is missed: a span that names a component which is not there gives no
-- hours to anything, and its table is told damaged by the look-ups that ask for the component. Where the item is there
-- and its total is not, the total is told damaged, since its hours would be lost.
use Rattle.std.specs.Prelude.{◌≡◌, ◌⊎◌, ℕ, pos, Option, IsSome, slice_get}
use Rattle.sqlite.specs.declared.types.Value.TheVariants.{Int}
use Rattle.sqlite.specs.Tree.{Trees}
use Rattle.mx_base.specs.declared.rows.rows.TotalRow.{TotalRow}
use Rattle.mx_layout.specs.kept.Cells.{kept_aircraft, kept_component, kept_total2}
use Rattle.mx_table_rows.specs.chosen.Choices.{has_value}
use Rattle.mx_lookups.specs.numbers.AnyRows.{Gives}
use Rattle.mx_lookups.specs.numbers.Damage.{HasRow}

-- an aircraft or a component has the number
abbrev pub HasItem : ℕ → Trees → Type 0
HasItem n trees = HasRow kept_aircraft (λ row. n ≡ row.seq) trees ⊎ HasRow kept_component (λ row. n ≡ row.seq) trees

-- the first of the totals with the number, and there is one where an aircraft or a component has it
abbrev pub TotalOf : ℕ → Trees → Option TotalRow → Type 0
TotalOf n trees found = Gives kept_total2 (has_value 0 (Int (pos n))) (λ rows. slice_get rows 0) trees found × (HasItem n trees → IsSome found)
