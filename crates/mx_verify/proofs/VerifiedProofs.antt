pub mod KeyLemmas
pub mod TableLemmas
