use Rattle.std.proofs.Common.{◌≡◌, map, take, All}
use Rattle.mx_tables.proofs.stored.typed.Given as goal

abbrev pub invariant-rows : goal.invariant-rows
invariant-rows g l = (map g.R.Stored.kept.as_cells l.rows.items ≡ take l.row-index l.found) × All g.R.Stored.kept.Fits l.rows.items
