pub mod FindLemmas
pub mod MomentLemmas
pub mod Told
