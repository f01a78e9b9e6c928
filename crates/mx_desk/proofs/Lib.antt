pub mod ServedLemmas
pub mod ServeLemmas
pub mod SilentLemmas
pub mod TakenLemmas
pub mod Worked
