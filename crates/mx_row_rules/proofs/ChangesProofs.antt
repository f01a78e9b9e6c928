pub mod AddedLemmas
pub mod PutLemmas
pub mod TouchLemmas
pub mod CertifiedLemmas
pub mod WorkedMade
