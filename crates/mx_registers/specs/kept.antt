pub mod Items
pub mod Changes
pub mod Spans
pub mod Totals
pub mod Bases
pub mod Becomes
pub mod Fits
pub mod Moments
