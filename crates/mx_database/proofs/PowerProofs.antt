pub mod FoundLemmas
pub mod LeftLemmas
