use Rattle.sqlite.specs.Held.{state}
use Rattle.mx_tables.proofs.InsertsProofs.SetLemmas.{reads_stopped, reads_fault}
use Rattle.mx_tables.proofs.inserts.sets.Tuple2Tables.read.Goals as goal

pub returns-in_err-two-clause-reads : goal.returns-in_err-two-clause-reads
returns-in_err-two-clause-reads g c =
    let old = state g.S.Store c.args.tx.now.conn.now in
    let mid = state g.S.Store c.read.new.tx.conn.now in
    let new = state g.S.Store c.read-2.new.tx.conn.now in
    reads_fault _ _ old new c.in_err-two.field-0.0 c.from_residual-in_err-two.result c.from_residual-in_err-two.ensures.1
    (reads_stopped g.A.Tables.IsIn g.B.Tables.IsIn g.A.Tables.AreRows g.B.Tables.AreRows _ old mid new c.in_ok-one.one c.in_err-two.field-0.0 c.in_ok-one.ensures.reads c.in_err-two.ensures.reads)
