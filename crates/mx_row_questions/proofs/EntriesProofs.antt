pub mod StatedLemmas
pub mod MoveLemmas
pub mod KindLemmas
pub mod LineLemmas
pub mod DamageLemmas
pub mod EntryLemmas
pub mod WorkedEntries
