pub mod Plain
pub mod Fitted
