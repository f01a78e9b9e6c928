pub mod DueLemmas
pub mod ReachLemmas
pub mod Worked
