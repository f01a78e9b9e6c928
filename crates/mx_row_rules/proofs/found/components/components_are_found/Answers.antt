use Rattle.mx_row_rules.proofs.FoundProofs.FoundLemmas.{component_is, serial_is, serial_numbered}
use Rattle.mx_row_rules.proofs.FoundProofs.PlaceLemmas.{all_serials, room_for_components}
use Rattle.mx_row_rules.proofs.found.components.components_are_found.Goals as goal

pub returns : goal.returns
returns c = record { by_serial = component_is; number = serial_is; by_number = serial_numbered; room = room_for_components; serials = all_serials }
