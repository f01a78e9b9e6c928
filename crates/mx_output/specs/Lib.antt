pub mod endings
pub mod explained
pub mod printed
pub mod questions
pub mod sector_log
