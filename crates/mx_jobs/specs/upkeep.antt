pub mod Installed
pub mod Moved
