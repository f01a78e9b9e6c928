pub mod RunLemmas
pub mod CommandLineProofs
