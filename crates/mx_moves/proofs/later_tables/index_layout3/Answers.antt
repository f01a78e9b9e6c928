use Rattle.sqlite.specs.Held.{state}
use Rattle.mx_moves.proofs.TableTexts.{sectors_turn, releases_turn, indexes_then}
use Rattle.mx_moves.proofs.later_tables.index_layout3.Goals as goal

pub returns-clause-alters : goal.returns-clause-alters
returns-clause-alters g c =
    indexes_then 32 sectors_turn releases_turn (state g.S.Store c.args.tx.now.conn.now) (state g.S.Store c.index_deferrals.new.tx.conn.now) (state g.S.Store c.index_sectors.new.tx.conn.now) (state g.S.Store c.index_releases.new.tx.conn.now) _ _ c.index_releases.result
    c.in_ok-index_deferrals.ensures.alters c.in_ok-index_sectors.ensures.alters c.index_releases.ensures.alters
