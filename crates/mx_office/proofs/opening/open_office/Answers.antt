use Rattle.std.proofs.Common.{refl}
use Rattle.mx_office.proofs.opening.open_office.Goals as goal

pub returns-in-None-clause-there : goal.returns-in-None-clause-there
returns-in-None-clause-there g c clean = c.in-None.ensures.there clean refl
