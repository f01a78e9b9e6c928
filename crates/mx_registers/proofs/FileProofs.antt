pub mod SpansMade
pub mod WalkLemmas
pub mod BaseLemmas
pub mod SortLemmas
pub mod TableLemmas
