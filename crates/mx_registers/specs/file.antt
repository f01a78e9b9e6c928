pub mod Bases
pub mod Sorted
pub mod Spans
pub mod Tables
