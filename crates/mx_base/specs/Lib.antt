pub mod Calendar
pub mod Identifier
pub mod Texts
pub mod Settled
pub mod rows
