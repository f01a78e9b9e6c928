pub mod CommandLineLemmas
pub mod NumberLemmas
pub mod WorkedCommandLine
pub mod WorkedJob
pub mod WorkedTrial
