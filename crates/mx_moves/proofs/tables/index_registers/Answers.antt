use Rattle.sqlite.specs.Held.{state}
use Rattle.mx_moves.proofs.TableTexts.{lines_turn, extensions_turn, indexes_then}
use Rattle.mx_moves.proofs.tables.index_registers.Goals as goal

pub returns-clause-alters : goal.returns-clause-alters
returns-clause-alters g c =
    indexes_then 25 lines_turn extensions_turn (state g.S.Store c.args.tx.now.conn.now) (state g.S.Store c.index_lines.new.tx.conn.now) (state g.S.Store c.index_extensions.new.tx.conn.now) (state g.S.Store c.index_defects.new.tx.conn.now) _ _ c.index_defects.result
    c.in_ok-index_lines.ensures.alters c.in_ok-index_extensions.ensures.alters c.index_defects.ensures.alters
