use Rattle.mx_registers.proofs.LateProofs.DoneFits.{credited_within, done_fit, done_within}
use Rattle.mx_registers.proofs.late.done.accomplishments_fit.Goals as goal

pub returns-clause-fits : goal.returns-clause-fits
returns-clause-fits c = done_fit

pub returns-clause-within : goal.returns-clause-within
returns-clause-within c = done_within

pub returns-clause-credited : goal.returns-clause-credited
returns-clause-credited c = credited_within
