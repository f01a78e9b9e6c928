use Rattle.std.proofs.Common.{refl}
use Rattle.sqlite.specs.Held.{state}
use Rattle.mx_layout.specs.declared.fault.Table.TheVariants as table
use Rattle.mx_base.specs.Settled.{settled}
use Rattle.mx_registers.specs.points.Points.{moving_from}
use Rattle.mx_moves.specs.steps.Tables.{table_made}
use Rattle.mx_migrate.proofs.RunLemmas.{writes_alone}
use Rattle.mx_migrate.proofs.later_tables.CreateDeferralsMigrate.run.Goals as goal

pub returns-clause-runs : goal.returns-clause-runs
returns-clause-runs g c =
    writes_alone _ _ _ (settled 2) (moving_from 2 1 0) (λ at here. here) (table_made table.Defect3 (moving_from 2 1 0)) (λ at before after made. record { point = refl; made = made })
    (state g.S.Store c.args.tx.now.conn.now) (state g.S.Store c.write_deferral_table.new.tx.conn.now) c.write_deferral_table.result c.reached.result c.reached.ensures c.write_deferral_table.ensures.open c.write_deferral_table.ensures.alters
