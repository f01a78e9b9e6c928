use Rattle.sqlite.proofs.Callers.{memory_is_clean}
use Rattle.mx_files.proofs.TrialLemmas.{memory_rests}
use Rattle.mx_files.proofs.trying.try_in_memory.Goals as goal

pub returns-in-Ok-clause-exact : goal.returns-in-Ok-clause-exact
returns-in-Ok-clause-exact c = c.try_in.ensures.exact (memory_rests c.in-Ok.conn c.in-Ok.ensures.empty) memory_is_clean
