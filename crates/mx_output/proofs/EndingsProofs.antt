pub mod WorkedFaults
pub mod WorkedStatus
