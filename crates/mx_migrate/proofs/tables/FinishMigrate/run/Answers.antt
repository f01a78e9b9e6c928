use Rattle.std.proofs.Common.{refl}
use Rattle.sqlite.specs.Held.{state}
use Rattle.mx_base.specs.Settled.{settled}
use Rattle.mx_registers.specs.points.Points.{moving}
use Rattle.mx_moves.specs.Keeping.{point_set}
use Rattle.mx_migrate.proofs.RunLemmas.{writes_alone}
use Rattle.mx_migrate.proofs.tables.FinishMigrate.run.Goals as goal

pub returns-clause-runs : goal.returns-clause-runs
returns-clause-runs g c =
    let step = c.args.self.now in
    writes_alone _ _ _ (moving 4 step.mark) (settled 2) (λ at here. here.0) (point_set (settled 2)) (λ at before after made. record { point = refl; made = made })
    (state g.S.Store c.args.tx.now.conn.now) (state g.S.Store c.write_finished.new.tx.conn.now) c.write_finished.result c.reached.result c.reached.ensures c.write_finished.ensures.open c.write_finished.ensures.alters
