use Rattle.std.proofs.Common.{◌∙◌, sym}
use Rattle.sqlite.specs.Held.{state}
use Rattle.mx_book_tables.proofs.ReadingProofs.DeferralLemmas.{moved_read, moving_read, unmoved_read}
use Rattle.mx_book_tables.proofs.reading.reading.register_rows_at.Goals as goal

pub returns-then-has_moved_deferrals-clause-reads : goal.returns-then-has_moved_deferrals-clause-reads
returns-then-has_moved_deferrals-clause-reads g c =
    moved_read c.args.at (state g.S.Store c.args.tx.now.conn.now) (state g.S.Store c.registers_by.new.tx.conn.now) c.registers_by.result (sym c.has_moved_deferrals.ensures ∙ c.if-has_moved_deferrals.true) c.registers_by.ensures.reads

pub returns-then-is_moving_deferrals-clause-reads : goal.returns-then-is_moving_deferrals-clause-reads
returns-then-is_moving_deferrals-clause-reads g c =
    let read = c.registers_by-then-is_moving_deferrals in
    moving_read c.args.at (state g.S.Store c.args.tx.now.conn.now) (state g.S.Store read.new.tx.conn.now) read.result (sym c.is_moving_deferrals.ensures ∙ c.if-is_moving_deferrals.true) read.ensures.reads

pub returns-else-is_moving_deferrals-clause-reads : goal.returns-else-is_moving_deferrals-clause-reads
returns-else-is_moving_deferrals-clause-reads g c =
    let read = c.registers_by-else-is_moving_deferrals in
    unmoved_read c.args.at (state g.S.Store c.args.tx.now.conn.now) (state g.S.Store read.new.tx.conn.now) read.result (sym c.has_moved_deferrals.ensures ∙ c.if-has_moved_deferrals.false) (sym c.is_moving_deferrals.ensures ∙ c.if-is_moving_deferrals.false) read.ensures.reads
