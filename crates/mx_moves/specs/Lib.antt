pub mod Changes
pub mod Schemas
pub mod Keeping
pub mod Texts
pub mod install
pub mod steps
