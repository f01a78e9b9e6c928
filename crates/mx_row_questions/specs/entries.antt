pub mod Names
pub mod Stated
pub mod Releases
pub mod Entries
pub mod Damage
