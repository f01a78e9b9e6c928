use Rattle.std.proofs.Common.{rules}
use Rattle.sqlite.specs.Held.{state}
use Rattle.mx_layout.proofs.InsideLemmas.{stays_inside, keeps_commit}
use Rattle.mx_layout.proofs.FillLemmas.{office_gains}
use Rattle.mx_layout.proofs.making.insert_office.Goals as goal

pub returns-clause-adds : goal.returns-clause-adds
returns-clause-adds g c layout is clean inside schema =
    office_gains layout is c.args.point.now (state g.S.Store c.args.tx.now.conn.now) (state g.S.Store c.execute.new.self.conn.now) c.execute.result schema
    (rw (c.params-to_sql.ensures, c.params-to_sql-2.ensures, c.params-to_sql-3.ensures, c.from.ensures, c.from-2.ensures) at (c.execute.ensures.runs clean inside))

pub returns-clause-stays : goal.returns-clause-stays
returns-clause-stays g c = record {
  same_reference = search rules;
  inside = λ clean inside. stays_inside _ _ _ _ c.execute.result (c.execute.ensures.runs clean inside);
  within = record { survives = c.execute.ensures.survives; kept = λ clean inside. keeps_commit _ _ _ _ c.execute.result (c.execute.ensures.runs clean inside) };
}
