use Rattle.std.proofs.Common.{◌≡◌, false}
use Rattle.sqlite.specs.Held.{state}
use Rattle.mx_migrate.proofs.SettleProofs.FollowLemmas.{HasFollowed}
use Rattle.mx_migrate.proofs.SettleProofs.SettleLemmas.{HasGone}
use Rattle.mx_migrate.proofs.settle.settling.go_on.Given as goal

-- so many commits were made
abbrev pub invariant-commits : goal.invariant-commits
invariant-commits g l = record {
  idle : l.conn.in_transaction ≡ false;
  gone : HasGone l.done l.at l.known (state g.S.Store l.fn.conn) (state g.S.Store l.conn);
  followed : HasFollowed g.S.Store l.fn.conn (state g.S.Store l.conn) l.at;
}
