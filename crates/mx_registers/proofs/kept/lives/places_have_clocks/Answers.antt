use Rattle.mx_registers.proofs.KeptProofs.PlaceClocks.{is_placed, place_clock_grows}
use Rattle.mx_registers.proofs.kept.lives.places_have_clocks.Goals as goal

pub returns : goal.returns
returns c = record { grows = place_clock_grows; placed = is_placed }
