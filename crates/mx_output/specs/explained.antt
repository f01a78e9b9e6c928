pub mod Explained
pub mod Form
