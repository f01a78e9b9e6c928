use Rattle.std.proofs.Common.{Ok, refl, subst}
use Rattle.sqlite.specs.Held.{state}
use Rattle.sqlite.specs.Order.{Row}
use Rattle.sqlite.specs.State.{ExecutesInside}
use Rattle.mx_layout.specs.Names.{table_named}
use Rattle.mx_tables.proofs.InsertsProofs.AddLemmas.{adds_row}
use Rattle.mx_tables.proofs.InsertsProofs.SetLemmas.{on_weaker}
use Rattle.mx_tables.proofs.inserts.insert.insert_values.Goals as goal

pub returns-clause-inserts : goal.returns-clause-inserts
returns-clause-inserts g c =
    let k = g.R.Stored.kept in
    let cells = k.as_cells c.args.row.now in
    let old = state g.S.Store c.args.tx.now.conn.now in
    let new = state g.S.Store c.execute.new.tx.conn.now in
    let r = rw c.texts.ensures.insert at c.execute.ensures in
    record {
      gains = λ clean inside has. on_weaker c.execute.result
          (λ ran. (adds_row old.now.schema k.insert (table_named k.name) cells (g.met.R.Stored.lawful.adds old.now.schema has c.args.row.now) old new refl).gains (Ok ran.0)
          (subst (λ (values : Row). ExecutesInside 0 k.insert values old new (Ok ran.0)) c.requires ran.1)) (r.runs clean inside);
      cause = r.cause;
      inside = r.stays.inside;
      within = r.stays.within;
    }
