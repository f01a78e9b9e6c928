use Rattle.std.proofs.Common.{◌≡◌, ℕ, take, Ok}
use Rattle.sqlite.specs.Held.{state}
use Rattle.mx_layout.specs.Contents.{HasNoReferences}
use Rattle.mx_apply.specs.writing.Changes.{WritesRows, all_in_place}
use Rattle.mx_apply.proofs.writing.replacing.replace_all.Given as goal

-- the rows so far are written
abbrev pub invariant-rows : goal.invariant-rows
invariant-rows g l = record {
  same_reference : l.tx.conn.ghost_name ≡ l.fn.tx.conn.ghost_name;
  writes : WritesRows {V = ℕ} (λ schema. g.R.Stored.kept.IsIn schema × HasNoReferences schema) (all_in_place g.R.Stored.kept g.R.Replace.replaced (take l.row-index l.rows)) (state g.S.Store l.fn.tx.conn.now) (state g.S.Store l.tx.conn.now) (Ok 0);
}
