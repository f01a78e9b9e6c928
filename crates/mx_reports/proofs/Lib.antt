pub mod StartsLemmas
pub mod Worked
mod WorkedDues
mod WorkedLimits
mod WorkedForecasts
mod WorkedFleet
pub mod WorkedReports
