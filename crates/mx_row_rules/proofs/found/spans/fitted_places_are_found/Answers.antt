use Rattle.mx_row_rules.proofs.FoundProofs.FittedLemmas.{components_there, none_fitted, places_found}
use Rattle.mx_row_rules.proofs.found.spans.fitted_places_are_found.Goals as goal

pub returns : goal.returns
returns c = record { places = places_found; there = components_there; missed = none_fitted }
