use Rattle.sqlite.specs.Held.{state}
use Rattle.mx_migrate.proofs.SettleProofs.SettleLemmas.{enough, fewer}
use Rattle.mx_migrate.proofs.settle.settling.settle.Goals as goal

pub returns-clause-enough : goal.returns-clause-enough
returns-clause-enough g c book b rests clean more =
    enough book c.args.at_most (state g.S.Store c.args.conn.now) (state g.S.Store c.go_on.new.conn) c.go_on.result b c.go_on.ensures.settles rests clean more

pub returns-clause-fewer : goal.returns-clause-fewer
returns-clause-fewer g c book b rests clean less =
    fewer book c.args.at_most (state g.S.Store c.args.conn.now) (state g.S.Store c.go_on.new.conn) c.go_on.result b c.go_on.ensures.settles rests clean less
