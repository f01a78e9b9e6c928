use Rattle.sqlite.specs.Held.{state}
use Rattle.mx_desk.proofs.ServedLemmas.{left_here}
use Rattle.mx_desk.proofs.serving.serve_next.Goals as goal

pub returns-in_default-clause-crash : goal.returns-in_default-clause-crash
returns-in_default-clause-crash g c = λ book rests. left_here book (state g.S.Store c.args.office.now.conn) rests
