use Rattle.std.proofs.Common.{refl}
use Rattle.sqlite.specs.Held.{state}
use Rattle.mx_registers.specs.points.Points.{moving}
use Rattle.mx_moves.specs.steps.Written.{bases_written}
use Rattle.mx_migrate.proofs.RunLemmas.{writes_alone}
use Rattle.mx_migrate.proofs.kept.WriteBasesMigrate.run.Goals as goal

pub returns-clause-runs : goal.returns-clause-runs
returns-clause-runs g c =
    let step = c.args.self.now in
    writes_alone _ _ _ (moving 4 step.mark) (moving 4 step.item) (λ at here. here) (bases_written step.rows.items (moving 4 step.item)) (λ at before after made. record { point = refl; made = made })
    (state g.S.Store c.args.tx.now.conn.now) (state g.S.Store c.write_bases.new.tx.conn.now) c.write_bases.result c.reached.result c.reached.ensures c.write_bases.ensures.open c.write_bases.ensures.alters
