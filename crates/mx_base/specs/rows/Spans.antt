-- What a span says of a flight.
use Rattle.std.specs.Prelude.{ℕ, nat_le, Bool, true, Option, ◌&&◌}
use Rattle.std.specs.Option.{option_map_or}

-- the moments from which a component was fitted and at which it was removed, if it was, have a flight from off to on between them
abbrev pub has_between : ℕ → ℕ → ℕ → Option ℕ → Bool
has_between off on from to = nat_le from off && option_map_or (λ to. nat_le on to) to true
