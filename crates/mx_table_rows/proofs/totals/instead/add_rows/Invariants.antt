use Rattle.std.proofs.Common.{◌≡◌, ℕ, take, Ok}
use Rattle.sqlite.specs.Held.{state}
use Rattle.mx_table_rows.specs.totals.Puts.{WritesRows, rows_added}
use Rattle.mx_table_rows.proofs.totals.instead.add_rows.Given as goal

-- the rows so far are added
abbrev pub invariant-rows : goal.invariant-rows
invariant-rows g l = record {
  same_reference : l.tx.conn.ghost_name ≡ l.fn.tx.conn.ghost_name;
  adds : WritesRows {V = ℕ} g.R.Stored.kept (rows_added g.R.Stored.kept (take l.row-index l.rows)) (state g.S.Store l.fn.tx.conn.now) (state g.S.Store l.tx.conn.now) (Ok 0);
}
