use Rattle.std.proofs.Common.{Err, Ok}
use Rattle.sqlite.specs.Held.{state}
use Rattle.mx_book_tables.specs.reading.Stored.{AreRegisters, AreStored, HasRegisters}
use Rattle.mx_book_tables.proofs.ReadingProofs.LookLemmas.{looks_then, stopped, told}
use Rattle.mx_book_tables.proofs.ReadingProofs.RegisterLemmas.{registers_settled}
use Rattle.mx_book_tables.proofs.ReadingProofs.StoredLemmas.{AreKept, AreKeptIn, kept_in, reads_look, stored_with}
use Rattle.mx_book_tables.proofs.reading.reading.read_rows.Goals as goal

pub returns-in_err-registers-clause-looks : goal.returns-in_err-registers-clause-looks
returns-in_err-registers-clause-looks g c =
    let old = state g.S.Store c.args.tx.now.conn.now in
    let new = state g.S.Store c.register_rows.new.tx.conn.now in
    stopped AreRegisters AreStored old new c.in_err-registers.field-0.0 c.from_residual.result c.from_residual.ensures.1
    (reads_look HasRegisters AreRegisters registers_settled old new (Err c.in_err-registers.field-0.0) c.in_err-registers.ensures.reads)

pub returns-in_err-kept-clause-looks : goal.returns-in_err-kept-clause-looks
returns-in_err-kept-clause-looks g c =
    let old = state g.S.Store c.args.tx.now.conn.now in
    let mid = state g.S.Store c.register_rows.new.tx.conn.now in
    let new = state g.S.Store c.read.new.tx.conn.now in
    let registers = c.in_ok-registers.registers in
    stopped (λ trees kept. AreRegisters trees registers × AreKept trees kept) AreStored old new c.in_err-kept.field-0.0 c.from_residual-in_err-kept.result c.from_residual-in_err-kept.ensures.1
    (looks_then AreRegisters AreKept old mid new registers (Err c.in_err-kept.field-0.0) (reads_look HasRegisters AreRegisters registers_settled old mid (Ok registers) c.in_ok-registers.ensures.reads)
    (reads_look AreKeptIn AreKept kept_in mid new (Err c.in_err-kept.field-0.0) c.in_err-kept.ensures.reads))

pub returns-clause-looks : goal.returns-clause-looks
returns-clause-looks g c =
    let old = state g.S.Store c.args.tx.now.conn.now in
    let mid = state g.S.Store c.register_rows.new.tx.conn.now in
    let new = state g.S.Store c.read.new.tx.conn.now in
    let registers = c.in_ok-registers.registers in
    let kept = c.in_ok-kept.kept in
    let with = c.with_kept.ensures in
    told (λ trees kept. AreRegisters trees registers × AreKept trees kept) AreStored old new kept c.with_kept.result (λ trees are. stored_with trees registers kept c.with_kept.result with.registers with.spans with.totals with.bases are)
    (looks_then AreRegisters AreKept old mid new registers (Ok kept) (reads_look HasRegisters AreRegisters registers_settled old mid (Ok registers) c.in_ok-registers.ensures.reads)
    (reads_look AreKeptIn AreKept kept_in mid new (Ok kept) c.in_ok-kept.ensures.reads))
