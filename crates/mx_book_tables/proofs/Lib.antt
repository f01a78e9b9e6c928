pub mod ReadingProofs
pub mod StandsProofs
