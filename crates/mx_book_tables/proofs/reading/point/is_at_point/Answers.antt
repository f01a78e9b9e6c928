use Rattle.sqlite.specs.Held.{state}
use Rattle.mx_book_tables.proofs.ReadingProofs.PointLemmas.{point_looks}
use Rattle.mx_book_tables.proofs.reading.point.is_at_point.Goals as goal

pub returns-clause-looks : goal.returns-clause-looks
returns-clause-looks g c =
    point_looks (state g.S.Store c.args.tx.now.conn.now) (state g.S.Store c.point_in.new.tx.conn.now) c.point_in.result c.told_point.result c.told_point.ensures
    c.point_in.ensures.answered c.point_in.ensures.reads c.point_in.ensures.stays.within
