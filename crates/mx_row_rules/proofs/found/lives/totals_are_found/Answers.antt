use Rattle.mx_row_rules.proofs.FoundProofs.LifeLemmas.{alive, clock_found, life_found, no_clock, no_life}
use Rattle.mx_row_rules.proofs.found.lives.totals_are_found.Goals as goal

pub returns : goal.returns
returns c = record { clock = clock_found; life = life_found; alive = alive; no_clock = no_clock; no_life = no_life }
