pub mod Import
pub mod Told
