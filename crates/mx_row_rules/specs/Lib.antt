pub mod changes
pub mod found
