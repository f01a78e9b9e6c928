pub mod Steps
pub mod Seeing
pub mod settle
