use Rattle.mx_registers.proofs.KeptProofs.KeyedLemmas.{base_rows_once, bases_decided}
use Rattle.mx_registers.proofs.kept.bases.bases_are_a_map.Goals as goal

pub returns : goal.returns
returns c = record { once = base_rows_once; decided = bases_decided }
