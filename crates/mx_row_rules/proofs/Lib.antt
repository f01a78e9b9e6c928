pub mod ChangesProofs
pub mod FoundProofs
