pub mod Fitted
pub mod numbers
