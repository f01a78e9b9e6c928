use Rattle.std.proofs.Common.{rules}
use Rattle.mx_office.proofs.LookLemmas.{looked, tells_looked}
use Rattle.mx_office.proofs.asking.life_found.Goals as goal

pub returns-clause-looks : goal.returns-clause-looks
returns-clause-looks g c =
    looked g.S.Store c.args.conn.now c.transaction-tx.result.conn.now c.life.new.tx.conn.now c.drop-tx.new.self.0 c.conn-1.given.0 c.transaction-tx.ensures.begun (search rules) c.drop-tx.ensures.survives c.drop-tx.ensures.undone c.life.result
    c.life.ensures.looks_up.any_rows c.life.ensures.looks_up.reads

pub returns-clause-damage : goal.returns-clause-damage
returns-clause-damage g c =
    tells_looked g.S.Store c.args.conn.now c.transaction-tx.result.conn.now c.life.new.tx.conn.now c.drop-tx.new.self.0 c.conn-1.given.0 c.transaction-tx.ensures.begun (search rules) c.drop-tx.ensures.survives c.drop-tx.ensures.undone c.life.result
    c.life.ensures.looks_up.damage
