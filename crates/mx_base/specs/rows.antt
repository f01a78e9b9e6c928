pub mod Rows
pub mod Rising
pub mod Pairs
pub mod Spans
