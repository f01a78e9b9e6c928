use Rattle.sqlite.specs.Held.{state}
use Rattle.mx_book_tables.proofs.ReadingProofs.StoredLemmas.{one_table}
use Rattle.mx_book_tables.proofs.reading.reading.register_rows.Goals as goal

pub returns-clause-reads : goal.returns-clause-reads
returns-clause-reads g c =
    one_table (state g.S.Store c.args.tx.now.conn.now) (state g.S.Store c.registers_by.new.tx.conn.now) c.registers_by.result c.registers_by.ensures.reads
