pub mod Family
pub mod Schemas
pub mod Stands
