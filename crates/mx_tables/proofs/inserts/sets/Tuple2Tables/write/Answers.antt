use Rattle.std.proofs.Common.{sym, subst}
use Rattle.sqlite.specs.Held.{state}
use Rattle.mx_tables.proofs.InsertsProofs.SetLemmas.{writes_then}
use Rattle.mx_tables.proofs.inserts.sets.Tuple2Tables.write.Goals as goal

pub returns-clause-writes : goal.returns-clause-writes
returns-clause-writes g c =
    writes_then g.A.Tables.IsIn g.B.Tables.IsIn (g.A.Tables.onto c.args.self.now.0) (g.B.Tables.onto c.args.self.now.1) (g.met.B.Tables.keeps c.args.self.now.1)
    (state g.S.Store c.args.tx.now.conn.now) (state g.S.Store c.write.new.tx.conn.now) (state g.S.Store c.write-2.new.tx.conn.now) c.in_ok-write.field-0 c.write-2.result
    c.in_ok-write.ensures.writes (λ s s' same h. subst g.B.Tables.IsIn (sym same) h) c.write-2.ensures.writes
