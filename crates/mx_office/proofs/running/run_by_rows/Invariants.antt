use Rattle.std.proofs.Common.{◌≡◌, ◌≤◌, [], length, false, None}
use Rattle.std.specs.Prelude.{vec_capacity}
use Rattle.sqlite.specs.Held.{state}
use Rattle.mx_office.specs.Calls.{HandsIn}
use Rattle.mx_office.proofs.running.run_by_rows.Given as goal

abbrev pub invariant-loop-command : goal.invariant-loop-command
invariant-loop-command g l = record {
  count : length l.said.items ≡ l.command-index;
  room : length l.commands ≤ vec_capacity l.said;
  start : l.said.items ≡ [] → l.conn ≡ l.fn.conn;
  idle : l.conn.in_transaction ≡ false;
  so_far : HandsIn l.commands l.said.items None (state g.S.Store l.fn.conn) (state g.S.Store l.conn);
}
