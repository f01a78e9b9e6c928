-- How the rows of a due list stand, and which comes first.
use Rattle.std.specs.Prelude.{ℕ, Bool, nat_lt}
use Rattle.mx_base.specs.declared.amounts.Status.{Status}
use Rattle.mx_base.specs.declared.amounts.Status.TheVariants as statuses
use Rattle.mx_lists.specs.declared.due_row.DueRow.{DueRow}
use Rattle.mx_lists.specs.declared.due_row.DueRow.TheVariants.{Task as TaskRow, Defect as DefectRow}

-- the place of a status in a list: the worst first
abbrev pub status_rank : Status → ℕ
status_rank statuses.Overdue = 0
status_rank statuses.Due = 1
status_rank statuses.Ok = 2

-- how the row stands
abbrev pub row_status : DueRow → Status
row_status (TaskRow status place task left) = status
row_status (DefectRow status doc letter reference last left) = status

-- one row comes before another: by how they stand
abbrev pub row_before : DueRow → DueRow → Bool
row_before a b = nat_lt (status_rank (row_status a)) (status_rank (row_status b))
