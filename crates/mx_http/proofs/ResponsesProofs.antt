pub mod Worked
pub mod WorkedServing
pub mod WritingLemmas
