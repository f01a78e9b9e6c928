use Rattle.mx_registers.proofs.LateProofs.CrossesNone.{crosses_none}
use Rattle.mx_registers.proofs.late.crossings.sectors_in_order_cross_nothing.Goals as goal

pub returns-clause-overlap : goal.returns-clause-overlap
returns-clause-overlap c book s b by = (crosses_none book b s by).0

pub returns-clause-straddle : goal.returns-clause-straddle
returns-clause-straddle c book s b by = (crosses_none book b s by).1
