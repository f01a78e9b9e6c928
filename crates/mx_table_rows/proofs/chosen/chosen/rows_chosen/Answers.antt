use Rattle.std.proofs.Common.{refl, subst}
use Rattle.sqlite.specs.Held.{state}
use Rattle.sqlite.specs.Order.{Row}
use Rattle.sqlite.specs.Values.{bound}
use Rattle.mx_table_rows.specs.chosen.Calls.{ShowsFirst}
use Rattle.mx_layout.specs.Names.{table_named}
use Rattle.mx_table_rows.proofs.ChosenProofs.ChooseLemmas.{shows_first}
use Rattle.mx_table_rows.proofs.chosen.chosen.rows_chosen.Goals as goal

pub returns-clause-reads : goal.returns-clause-reads
returns-clause-reads g c most order chosen given finds same =
    let k = g.R.Stored.kept in
    let old = state g.S.Store c.args.tx.now.conn.now in
    let new = state g.S.Store c.read_chosen.new.tx.conn.now in
    let r = rw c.texts.ensures.table at c.read_chosen.ensures in
    let shows = λ (has : k.IsIn old.now.schema). subst (λ (values : Row). ShowsFirst c.args.sql.now (bound c.args.values.now) most (table_named k.name) order (chosen values) old new) same (shows_first old.now.schema c.args.sql.now (table_named k.name) order chosen most (finds old.now.schema has) (bound c.args.values.now) old new refl) in
    record {
      rows = λ clean has. r.rows most (table_named k.name) order (chosen given) (shows has) clean;
      fits = r.fits;
      cause = r.cause;
      damaged = λ clean has is. r.damaged most (table_named k.name) order (chosen given) (shows has) clean is;
      unchanged = λ clean has. r.unchanged most (table_named k.name) order (chosen given) (shows has) clean;
      inside = r.inside;
      within = r.within;
    }
