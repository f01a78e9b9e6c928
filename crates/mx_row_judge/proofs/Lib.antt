pub mod ViewLemmas
pub mod ListLemmas
pub mod GivenLemmas
pub mod KnownStanding
pub mod StandingLemmas
pub mod KnownProofs
