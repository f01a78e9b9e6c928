use Rattle.std.proofs.Common.{◌≡◌, IsTrue}
use Rattle.sqlite.specs.Held.{state}
use Rattle.sqlite.specs.State.{HasCleanDisk}
use Rattle.mx_layout.specs.Crash.{IsWithin}
use Rattle.mx_layout.specs.Making.{IsBlank}
use Rattle.mx_layout.specs.Tables.{no_schema}
use Rattle.mx_layout.proofs.StepLemmas.{schema_at}
use Rattle.mx_layout.proofs.making.make_tables.Given as goal

abbrev pub invariant-loop-at : goal.invariant-loop-at
invariant-loop-at g l = record {
  same_reference : l.tx.conn.ghost_name ≡ l.fn.tx.conn.ghost_name;
  within : IsWithin (state g.S.Store l.fn.tx.conn.now) (state g.S.Store l.tx.conn.now);
  mode : HasCleanDisk (state g.S.Store l.tx.conn.now) → IsTrue (state g.S.Store l.fn.tx.conn.now).in_transaction → IsTrue (state g.S.Store l.tx.conn.now).in_transaction;
  blank : HasCleanDisk (state g.S.Store l.tx.conn.now) → IsTrue (state g.S.Store l.fn.tx.conn.now).in_transaction
      → IsBlank no_schema (state g.S.Store l.fn.tx.conn.now).now → IsBlank (schema_at l.at) (state g.S.Store l.tx.conn.now).now;
}
