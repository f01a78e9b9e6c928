use Rattle.sqlite.specs.Held.{state}
use Rattle.mx_moves.proofs.TableTexts.{index_turns, by_remove_seq_turns, indexes_then}
use Rattle.mx_moves.proofs.tables.index_span2.Goals as goal

pub returns-clause-alters : goal.returns-clause-alters
returns-clause-alters g c =
    indexes_then 18 index_turns by_remove_seq_turns (state g.S.Store c.args.tx.now.conn.now) (state g.S.Store c.index_by_component.new.tx.conn.now) (state g.S.Store c.index_by_aircraft.new.tx.conn.now) (state g.S.Store c.index_by_remove_seq.new.tx.conn.now) _ _ c.index_by_remove_seq.result
    c.in_ok-index_by_component.ensures.alters c.in_ok-index_by_aircraft.ensures.alters c.index_by_remove_seq.ensures.alters
