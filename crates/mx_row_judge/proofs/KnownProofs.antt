pub mod TellLemmas
pub mod KnownLemmas
pub mod WorkedKnown
