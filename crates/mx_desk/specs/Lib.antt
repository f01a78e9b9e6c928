pub mod Answered
pub mod BookAnswer
pub mod Served
pub mod Taken
