pub mod ListedLemmas
pub mod TellLemmas
pub mod DerivedProofs
pub mod MergedProofs
pub mod VerifiedProofs
pub mod WorkedMerging
pub mod WorkedListed
