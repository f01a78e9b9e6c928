use Rattle.std.proofs.Common.{Ok, refl, subst}
use Rattle.sqlite.specs.Held.{state}
use Rattle.sqlite.specs.Order.{Row}
use Rattle.sqlite.specs.Values.{bound}
use Rattle.mx_table_rows.specs.chosen.Calls.{DeletesThose}
use Rattle.mx_layout.specs.Names.{table_named}
use Rattle.mx_tables.proofs.InsertsProofs.SetLemmas.{on_weaker}
use Rattle.mx_table_rows.proofs.ChosenProofs.DeleteLemmas.{deletes_those}
use Rattle.mx_table_rows.proofs.chosen.chosen.delete_rows.Goals as goal

pub returns-clause-deletes : goal.returns-clause-deletes
returns-clause-deletes g c chosen given deletes same =
    let kept = g.R.Stored.kept in
    let old = state g.S.Store c.args.tx.now.conn.now in
    let new = state g.S.Store c.execute.new.tx.conn.now in
    let r = c.execute.ensures in
    record {
      loses = λ clean inside has free rises. on_weaker c.execute.result
          (λ ran. (subst (λ (values : Row). DeletesThose c.args.sql.now (bound c.args.values.now) (table_named kept.name) (chosen values) old new) same (deletes_those old.now.schema c.args.sql.now (table_named kept.name) chosen (deletes old.now.schema has) (bound c.args.values.now) old new refl)).loses (Ok ran.0) free rises ran.1)
          (r.runs clean inside);
      cause = r.cause;
      inside = r.stays.inside;
      within = r.stays.within;
    }
