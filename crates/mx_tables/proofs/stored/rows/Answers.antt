use Rattle.std.proofs.Common.{refl}
use Rattle.sqlite.specs.Held.{state}
use Rattle.mx_layout.specs.Names.{table_named}
use Rattle.mx_tables.proofs.KeptLemmas.{shows_all}
use Rattle.mx_tables.proofs.stored.rows.Goals as goal

pub returns-clause-reads : goal.returns-clause-reads
returns-clause-reads g c =
    let k = g.R.Stored.kept in
    let old = state g.S.Store c.args.tx.now.conn.now in
    let new = state g.S.Store c.read_rows.new.tx.conn.now in
    let r = rw (c.texts-texts.ensures.table, c.texts-texts.ensures.select) at c.read_rows.ensures in
    let shows = λ (has : k.IsIn old.now.schema). shows_all old.now.schema k.select (table_named k.name) k.order (g.met.R.Stored.lawful.shows old.now.schema has) old new refl in
    record {
      rows = λ clean has. r.rows (table_named k.name) k.order (shows has) clean;
      fits = r.fits;
      cause = r.cause;
      damaged = λ clean has is. r.damaged (table_named k.name) k.order (shows has) clean is;
      unchanged = λ clean has. r.unchanged (table_named k.name) k.order (shows has) clean;
      inside = r.stays.inside;
      within = r.stays.within;
    }
