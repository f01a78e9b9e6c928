pub mod Bases
pub mod Verified
