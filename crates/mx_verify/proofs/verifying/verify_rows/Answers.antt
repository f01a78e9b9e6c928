use Rattle.std.proofs.Common.{rules, ◌≡◌, arith}
use Rattle.sqlite.specs.Held.{state}
use Rattle.sqlite.specs.State.{HasCleanDisk}
use Rattle.mx_verify.proofs.TellLemmas.{tells_store}
use Rattle.mx_verify.proofs.verifying.verify_rows.Goals as goal

pub returns-then-is_missing-clause-tells : goal.returns-then-is_missing-clause-tells
returns-then-is_missing-clause-tells g c clean has = tells_store _ _

pub returns-clause-tells : goal.returns-clause-tells
returns-clause-tells g c clean has =
    let end = c.drop-tx-2.new.self.0 in
    let same : end ≡ c.conn-2-1.given.0 = search rules in
    let late : HasCleanDisk (state g.S.Store end) = rw same clean in
    let early : HasCleanDisk (state g.S.Store c.verify_in.new.tx.conn.now) = omega (arith, c.drop-tx-2.ensures.survives.clean) in
    rw c.transaction-tx.ensures.begun at (c.verify_in.ensures.verifies.tells early (rw c.transaction-tx.ensures.begun has))
