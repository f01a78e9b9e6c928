use Rattle.mx_registers.proofs.KeptProofs.FittedRows.{aircraft_found, moment_found, position_found}
use Rattle.mx_registers.proofs.kept.spans.rows_have_what_is_fitted.Goals as goal

pub returns : goal.returns
returns c = record { aircraft = aircraft_found; position = position_found; moment = moment_found }
