use Rattle.mx_row_rules.proofs.FoundProofs.FoundLemmas.{aircraft_is, tail_is, tail_numbered}
use Rattle.mx_row_rules.proofs.FoundProofs.PlaceLemmas.{all_tails, room_for_aircraft}
use Rattle.mx_row_rules.proofs.found.aircraft.aircraft_are_found.Goals as goal

pub returns : goal.returns
returns c = record { by_tail = aircraft_is; number = tail_is; by_number = tail_numbered; room = room_for_aircraft; tails = all_tails }
