use Rattle.sqlite.specs.Held.{state}
use Rattle.mx_layout.specs.kept.Cells.{kept_done3}
use Rattle.mx_layout.specs.kept.Family.{on_top}
use Rattle.mx_moves.proofs.RowLemmas.{tables_write}
use Rattle.mx_moves.proofs.later_rows.insert_accomplishments.Goals as goal

pub returns-clause-writes : goal.returns-clause-writes
returns-clause-writes g c =
    tables_write kept_done3.IsIn (on_top kept_done3 c.args.accomplishments.now.items) (state g.S.Store c.args.tx.now.conn.now) (state g.S.Store c.write.new.tx.conn.now) c.write.result c.write.ensures.writes
