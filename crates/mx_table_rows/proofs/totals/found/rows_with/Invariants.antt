use Rattle.std.proofs.Common.{take}
use Rattle.mx_table_rows.specs.totals.Found.{AreGained}
use Rattle.mx_table_rows.proofs.totals.found.rows_with.Given as goal

-- those of the defects so far are made
abbrev pub invariant-rows : goal.invariant-rows
invariant-rows l = AreGained l.cycles l.landed (take l.row-index l.rows) l.shifted.items
