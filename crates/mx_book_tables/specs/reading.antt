pub mod Damage
pub mod Deferrals
pub mod Layout
pub mod Looks
pub mod Stored
