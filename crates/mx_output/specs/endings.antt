pub mod FaultLine
pub mod Status
