use Rattle.std.proofs.Common.{refl}
use Rattle.sqlite.specs.Held.{state}
use Rattle.mx_registers.specs.points.Points.{moving_from}
use Rattle.mx_moves.specs.steps.Accomplishments.{accomplishments_written}
use Rattle.mx_migrate.proofs.RunLemmas.{writes_alone}
use Rattle.mx_migrate.proofs.accomplishments.WriteAccomplishmentsMigrate.run.Goals as goal

pub returns-clause-runs : goal.returns-clause-runs
returns-clause-runs g c =
    let step = c.args.self.now in
    writes_alone _ _ _ (moving_from 2 2 step.mark) (moving_from 2 2 step.item) (λ at here. here) (accomplishments_written step.rows.items (moving_from 2 2 step.item)) (λ at before after made. record { point = refl; made = made })
    (state g.S.Store c.args.tx.now.conn.now) (state g.S.Store c.write_accomplishments.new.tx.conn.now) c.write_accomplishments.result c.reached.result c.reached.ensures c.write_accomplishments.ensures.open c.write_accomplishments.ensures.alters
