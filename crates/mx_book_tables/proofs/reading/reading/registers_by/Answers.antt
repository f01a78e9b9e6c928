use Rattle.sqlite.specs.Held.{state}
use Rattle.mx_book_tables.specs.reading.Stored.{AreRegistersBy, HasRegistersBy}
use Rattle.mx_book_tables.proofs.ReadingProofs.ReadLemmas.{read_no_memory, read_stopped, read_told}
use Rattle.mx_book_tables.proofs.ReadingProofs.StoredLemmas.{AreDeferrals, AreIn, ArePairs, all_in, stored_in}
use Rattle.mx_book_tables.proofs.reading.reading.registers_by.Goals as goal

pub returns-in_err-pairs-clause-reads : goal.returns-in_err-pairs-clause-reads
returns-in_err-pairs-clause-reads g c =
    let has = g.D.Tables.IsIn in
    let read = g.D.Tables.AreRows in
    let of = g.D.DeferralTables.deferrals_of in
    let old = state g.S.Store c.args.tx.now.conn.now in
    let new = state g.S.Store c.read.new.tx.conn.now in
    read_stopped (AreIn has read of) (HasRegistersBy has) (ArePairs has read of) (AreRegistersBy (AreDeferrals has read of)) (all_in has read of) old new c.in_err-pairs.field-0.0 c.from_residual.result c.from_residual.ensures.1 c.in_err-pairs.ensures.reads

pub returns-in_err-rows-clause-reads : goal.returns-in_err-rows-clause-reads
returns-in_err-rows-clause-reads g c =
    let has = g.D.Tables.IsIn in
    let read = g.D.Tables.AreRows in
    let of = g.D.DeferralTables.deferrals_of in
    let old = state g.S.Store c.args.tx.now.conn.now in
    let new = state g.S.Store c.read.new.tx.conn.now in
    read_no_memory (AreIn has read of) (HasRegistersBy has) (ArePairs has read of) (AreRegistersBy (AreDeferrals has read of)) (all_in has read of) old new c.in_ok-pairs.pairs c.from_residual-in_err-rows.result c.from_residual-in_err-rows.ensures.1 c.in_ok-pairs.ensures.reads

pub returns-clause-reads : goal.returns-clause-reads
returns-clause-reads g c =
    let has = g.D.Tables.IsIn in
    let read = g.D.Tables.AreRows in
    let of = g.D.DeferralTables.deferrals_of in
    let old = state g.S.Store c.args.tx.now.conn.now in
    let new = state g.S.Store c.read.new.tx.conn.now in
    read_told (AreIn has read of) (HasRegistersBy has) (ArePairs has read of) (AreRegistersBy (AreDeferrals has read of)) (all_in has read of) old new c.in_ok-pairs.pairs c.in_ok-rows.rows (λ trees are. stored_in has read of trees c.in_ok-pairs.pairs c.in_ok-rows.rows c.in_ok-rows.ensures are) c.in_ok-pairs.ensures.reads
