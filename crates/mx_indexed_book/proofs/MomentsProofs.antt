pub mod DoneLemmas
pub mod FlownLemmas
pub mod FoundLemmas
pub mod LandingLemmas
pub mod SaidLemmas
pub mod WalkLemmas
pub mod WorkedMoments
