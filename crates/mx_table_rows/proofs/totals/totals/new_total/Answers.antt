use Rattle.sqlite.specs.Held.{state}
use Rattle.mx_layout.specs.kept.Cells.{kept_total2}
use Rattle.mx_table_rows.specs.totals.Totals.{total_row}
use Rattle.mx_table_rows.proofs.TotalsProofs.ChangeLemmas.{inserts_is}
use Rattle.mx_tables.proofs.InsertsProofs.SetLemmas.{on_weaker}
use Rattle.mx_table_rows.proofs.totals.totals.new_total.Goals as goal

pub returns-clause-changes : goal.returns-clause-changes
returns-clause-changes g c =
    inserts_is kept_total2 (total_row c.args.item c.args.total) (state g.S.Store c.args.tx.now.conn.now) (state g.S.Store c.insert.new.tx.conn.now) c.insert.result c.insert.ensures.inserts

pub returns-clause-opens : goal.returns-clause-opens
returns-clause-opens g c clean begun = on_weaker c.insert.result (λ stays. stays.was_open) (c.insert.ensures.inserts.inside clean begun)
