pub mod EachLemmas
pub mod TableLemmas
pub mod Worked
