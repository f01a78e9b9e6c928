use Rattle.std.proofs.Common.{rules}
use Rattle.mx_migrate.proofs.CommitLemmas.{step_commits, step_in_doubt, step_stops}
use Rattle.mx_migrate.proofs.step.commit_step.Goals as goal

pub returns-in-Err : goal.returns-in-Err
returns-in-Err g c =
    let both = step_stops g.S.Store c.args.conn.now c.transaction-tx.result.conn.now c.run.new.tx.conn.now c.drop-tx.new.self.0 c.conn-1.given.0 c.transaction-tx.ensures.begun (search rules) _ _ _ _ (g.met.M.Migrate.moves c.args.step.now) (g.met.M.Migrate.whole c.args.step.now)
    c.in-Err.fault c.fault_of.result c.fault_of.ensures c.in-Err.ensures.runs c.drop-tx.ensures.survives c.drop-tx.ensures.undone in
    record { idle = search rules; commits = both.0; crash = both.1 }

pub returns-in-Ok-commit : goal.returns-in-Ok-commit
returns-in-Ok-commit g c =
    let both = step_commits g.S.Store c.args.conn.now c.transaction-tx.result.conn.now c.run.new.tx.conn.now c.commit.new.self.0 c.conn-2-1.given.0 c.transaction-tx.ensures.begun (search rules) _ _ _ _ (g.met.M.Migrate.moves c.args.step.now) (g.met.M.Migrate.whole c.args.step.now)
    c.in-Ok.at c.in-Ok.ensures.runs c.commit.ensures.survives g.met.S.Store.settled (λ clean. (c.in-Ok-commit.ensures.ok clean).1) in
    record { idle = search rules; commits = both.0; crash = both.1 }

pub returns-in-Err-commit : goal.returns-in-Err-commit
returns-in-Err-commit g c =
    let both = step_in_doubt g.S.Store c.args.conn.now c.transaction-tx.result.conn.now c.run.new.tx.conn.now c.commit.new.self.0 c.conn-2-1.given.0 c.transaction-tx.ensures.begun (search rules) _ _ _ _ (g.met.M.Migrate.moves c.args.step.now) (g.met.M.Migrate.whole c.args.step.now)
    c.in-Ok.at c.in-Ok.ensures.runs c.commit.ensures.survives in
    record { idle = search rules; commits = both.0; crash = both.1 }
