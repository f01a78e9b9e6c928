use Rattle.mx_verify.proofs.DerivedProofs.KeptLemmas.{of_merged}
use Rattle.mx_registers.proofs.FileProofs.TableLemmas.{registers_put}
use Rattle.mx_verify.proofs.derived.kept.kept_rows.Goals as goal

pub returns-in-Ok-clause-whole : goal.returns-in-Ok-clause-whole
returns-in-Ok-clause-whole c = λ book is are. c.kept_in_order.ensures.whole book is (registers_put c.args.rows c.put_in_order.new.rows book is c.in-Ok.ensures are)

pub returns-in-Ok-clause-merged : goal.returns-in-Ok-clause-merged
returns-in-Ok-clause-merged c = of_merged c.args.rows c.put_in_order.new.rows c.kept_in_order.result c.in-Ok.ensures c.kept_in_order.ensures.any

pub returns-in-Ok-clause-damaged : goal.returns-in-Ok-clause-damaged
returns-in-Ok-clause-damaged c = λ kind e. (c.put_in_order.new.rows, c.in-Ok.ensures, c.kept_in_order.ensures.damaged kind e)

pub returns-in-Ok-clause-differs : goal.returns-in-Ok-clause-differs
returns-in-Ok-clause-differs c = λ e. (c.put_in_order.new.rows, c.in-Ok.ensures, c.kept_in_order.ensures.differs e)
