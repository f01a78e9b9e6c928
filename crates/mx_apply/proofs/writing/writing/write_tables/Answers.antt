use Rattle.std.proofs.Common.{List, [], ◌∷◌, Ok, IsTrue, subst, arith}
use Rattle.sqlite.specs.Order.{Row}
use Rattle.sqlite.specs.State.{HasCleanDisk}
use Rattle.sqlite.specs.Held.{state}
use Rattle.mx_row_rules.specs.declared.changes.rows.AddedRows.{AddedRows}
use Rattle.mx_layout.specs.TableName.{TableName}
use Rattle.mx_layout.specs.kept.Cells.{kept_entry}
use Rattle.mx_layout.specs.kept.Family.{on_top}
use Rattle.mx_apply.specs.writing.Changes.{WritesRows}
use Rattle.mx_apply.specs.writing.Pairs.{added_in_pairs}
use Rattle.mx_apply.specs.writing.Written.{IsSettled, with_added, with_changed}
use Rattle.mx_apply.proofs.WritingProofs.RowLemmas.{always, inserts_write, rows_over, rows_then, tables_write}
use Rattle.mx_apply.proofs.WritingProofs.StandLemmas.{added_keep, changed_keep}
use Rattle.mx_apply.proofs.WritingProofs.ThereLemmas.{AreAddedIn, added_in, entry_in}
use Rattle.mx_apply.proofs.writing.writing.write_tables.Goals as goal

pub returns-clause-writes : goal.returns-clause-writes
returns-clause-writes g c =
    let x = c.args.rows in
    let s0 = state g.S.Store c.args.tx.now.conn.now in
    let s1 = state g.S.Store c.insert.new.tx.conn.now in
    let s2 = state g.S.Store c.write_changed.new.tx.conn.now in
    let s3 = state g.S.Store c.write.new.tx.conn.now in
    let entry = on_top kept_entry (x.entry ∷ []) in
    let changed = with_changed x.changed in
    let one = rows_over kept_entry.IsIn IsSettled entry s0 s1 (Ok _) entry_in (inserts_write kept_entry x.entry s0 s1 _ c.in_ok-insert.ensures.inserts) in
    let both = rows_then IsSettled entry changed (changed_keep x.changed) s0 s1 s2 _ (Ok _) one c.in_ok-write_changed.ensures.writes in
    let added = rows_over AreAddedIn IsSettled (with_added (added_in_pairs c.in_pairs.result)) s2 s3 c.write.result added_in (tables_write _ _ s2 s3 c.write.result c.write.ensures.writes) in
    rows_then IsSettled (λ (name : TableName) (xs : List Row). changed name (entry name xs)) (with_added x.added) (added_keep x.added) s0 s2 s3 _ c.write.result both
    (subst (λ (v : AddedRows). WritesRows IsSettled (with_added v) s2 s3 c.write.result) c.in_pairs.ensures added)

pub returns-clause-opens : goal.returns-clause-opens
returns-clause-opens g c clean begun =
    let early : HasCleanDisk (state g.S.Store c.insert.new.tx.conn.now) = omega (arith, c.write_changed.ensures.writes.within.survives.clean, c.write.ensures.writes.within.survives.clean) in
    always (IsTrue (state g.S.Store c.args.tx.now.conn.now).is_open) c.write.result (c.in_ok-insert.ensures.inserts.inside early begun).was_open
