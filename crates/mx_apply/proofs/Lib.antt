pub mod ApplyLemmas
pub mod CommitLemmas
pub mod LeftLemmas
pub mod MadeProofs
pub mod WritingProofs
