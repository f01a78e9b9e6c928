pub mod Judged
pub mod Applies
pub mod Named
pub mod made
pub mod writing
