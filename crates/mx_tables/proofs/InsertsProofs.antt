pub mod AddLemmas
pub mod BoundLemmas
pub mod SetLemmas
