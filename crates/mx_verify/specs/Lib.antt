pub mod Damage
pub mod Listed
pub mod Verifies
pub mod derived
pub mod merged
pub mod verified
