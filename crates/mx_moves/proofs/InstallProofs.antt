pub mod GainLemmas
pub mod EntryLemmas
