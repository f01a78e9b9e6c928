pub mod Done
pub mod Flown
pub mod Found
pub mod Landings
