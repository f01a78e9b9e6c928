pub mod Found
pub mod Left
