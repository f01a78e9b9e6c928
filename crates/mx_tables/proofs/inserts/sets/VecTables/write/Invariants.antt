use Rattle.std.proofs.Common.{◌≡◌, ℕ, Ok, take}
use Rattle.sqlite.specs.Held.{state}
use Rattle.mx_layout.specs.kept.Family.{on_top}
use Rattle.mx_tables.specs.inserts.Sets.{WritesTables}
use Rattle.mx_tables.proofs.inserts.sets.VecTables.write.Given as goal

-- the rows so far are added
abbrev pub invariant-rows : goal.invariant-rows
invariant-rows g l = record {
  same_reference : l.tx.conn.ghost_name ≡ l.fn.tx.conn.ghost_name;
  writes : WritesTables {V = ℕ} g.R.Stored.kept.IsIn (on_top g.R.Stored.kept (take l.row-index l.row-items)) (state g.S.Store l.fn.tx.conn.now) (state g.S.Store l.tx.conn.now) (Ok 0);
}
