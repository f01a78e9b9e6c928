use Rattle.mx_registers.proofs.LateProofs.CrossedRows.{straddle_least}
use Rattle.mx_registers.proofs.LateProofs.CrossingLemmas.{overlap_rows}
use Rattle.mx_registers.proofs.late.crossings.sectors_cross_by_rows.Goals as goal

pub returns-clause-overlap : goal.returns-clause-overlap
returns-clause-overlap c = overlap_rows

pub returns-clause-straddle : goal.returns-clause-straddle
returns-clause-straddle c = straddle_least
