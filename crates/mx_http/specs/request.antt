pub mod Asked
pub mod Body
pub mod Fields
pub mod Head
pub mod Input
pub mod Rejected
pub mod Response
pub mod Routes
