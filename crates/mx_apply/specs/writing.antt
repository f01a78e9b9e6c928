pub mod Changes
pub mod Pairs
pub mod Written
pub mod Commits
