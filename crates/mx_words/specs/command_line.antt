pub mod CommandLine
pub mod Job
pub mod Number
pub mod Trial
pub mod Usage
