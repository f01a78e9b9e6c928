pub mod LookLemmas
pub mod PointLemmas
pub mod ReadLemmas
pub mod RegisterLemmas
pub mod StoredLemmas
pub mod DeferralLemmas
pub mod WorkedReading
