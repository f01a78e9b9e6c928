pub mod Done
pub mod Found
pub mod Crossings
