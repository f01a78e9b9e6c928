use Rattle.mx_row_rules.proofs.FoundProofs.PlaceLemmas.{part_found, part_missed}
use Rattle.mx_row_rules.proofs.found.aircraft.positions_are_found.Goals as goal

pub returns : goal.returns
returns c = record { found = λ book tail position n b h. part_found tail book position n b h; missed = λ book tail position h. part_missed tail book position h }
