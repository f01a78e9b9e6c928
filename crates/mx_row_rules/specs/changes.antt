pub mod Puts
pub mod Kept
pub mod Rows
pub mod Certified
pub mod Made
