pub mod Reading
pub mod maps
pub mod moments
