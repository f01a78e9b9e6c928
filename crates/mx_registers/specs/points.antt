pub mod Points
pub mod Tables
pub mod Moves
pub mod Same
pub mod Commits
pub mod Standing
