pub mod Totals
pub mod Made
pub mod Releases
pub mod Found
pub mod Damage
