-- A step that moves the rows of one table to another, at most 64 a commit: what sectors and deferrals have alike.
use Rattle.std.specs.Prelude.{◌&&◌, ℕ, pos, nat_lt, nat_le, Bool, List}
use Rattle.sqlite.specs.declared.types.Value.TheVariants.{Int}
use Rattle.sqlite.specs.Order.{Row}
use Rattle.mx_book.specs.declared.limits.TheConstants.{MOST_ENTRIES}
use Rattle.mx_base.specs.declared.point.Point.{Point}
use Rattle.mx_layout.specs.TableName.{TableName}
use Rattle.mx_layout.specs.kept.Kept.{Kept}
use Rattle.mx_layout.specs.kept.Family.{on_top}
use Rattle.mx_table_rows.specs.chosen.Choices.{is_up_to}
use Rattle.mx_moves.specs.Changes.{less}
use Rattle.mx_moves.specs.Keeping.{point_set}

-- what has this number has still to move: it is above the mark, and one that an entry can have
abbrev pub is_number_next : ℕ → ℕ → Bool
is_number_next mark seq = nat_lt mark seq && nat_le seq MOST_ENTRIES

-- these rows are in the new table, those up to the mark of the point are gone from the old one, and the point is this one
abbrev pub batch_moved : {Old New : Type 0} → Kept Old → Kept New → List New → Point → TableName → List Row → List Row
batch_moved old new rows to name had = point_set to name (less old (is_up_to 0 (Int (pos to.mark))) name (on_top new rows name had))
