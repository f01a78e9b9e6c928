use Rattle.std.proofs.Common.{refl}
use Rattle.sqlite.specs.Held.{state}
use Rattle.mx_layout.specs.declared.fault.Table.TheVariants as table
use Rattle.mx_registers.specs.points.Points.{moving}
use Rattle.mx_moves.specs.steps.Tables.{table_made}
use Rattle.mx_migrate.proofs.RunLemmas.{writes_alone}
use Rattle.mx_migrate.proofs.tables.CreateBasesMigrate.run.Goals as goal

pub returns-clause-runs : goal.returns-clause-runs
returns-clause-runs g c =
    let step = c.args.self.now in
    writes_alone _ _ _ (moving 3 step.mark) (moving 4 0) (λ at here. here.0) (table_made table.Base2 (moving 4 0)) (λ at before after made. record { point = refl; made = made })
    (state g.S.Store c.args.tx.now.conn.now) (state g.S.Store c.write_base_table.new.tx.conn.now) c.write_base_table.result c.reached.result c.reached.ensures c.write_base_table.ensures.open c.write_base_table.ensures.alters
