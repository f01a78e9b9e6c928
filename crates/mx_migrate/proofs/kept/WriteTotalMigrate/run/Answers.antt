use Rattle.std.proofs.Common.{refl}
use Rattle.sqlite.specs.Held.{state}
use Rattle.mx_registers.specs.points.Points.{moving}
use Rattle.mx_moves.specs.steps.Written.{total_written}
use Rattle.mx_migrate.proofs.RunLemmas.{writes_alone}
use Rattle.mx_migrate.proofs.kept.WriteTotalMigrate.run.Goals as goal

pub returns-clause-runs : goal.returns-clause-runs
returns-clause-runs g c =
    let step = c.args.self.now in
    writes_alone _ _ _ (moving 3 step.mark) (moving 3 step.row.item) (λ at here. here) (total_written step.row (moving 3 step.row.item)) (λ at before after made. record { point = refl; made = made })
    (state g.S.Store c.args.tx.now.conn.now) (state g.S.Store c.write_total.new.tx.conn.now) c.write_total.result c.reached.result c.reached.ensures c.write_total.ensures.open c.write_total.ensures.alters
