pub mod MergingLemmas
pub mod MergingOn
pub mod SaidLemmas
pub mod TotalLemmas
pub mod KeyLemmas
pub mod BlameLemmas
