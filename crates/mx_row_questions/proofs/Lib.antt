pub mod EntriesProofs
pub mod ListsProofs
