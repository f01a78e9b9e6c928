pub mod AmongAll
pub mod FittedLemmas
pub mod ForecastLemmas
pub mod Gathering
pub mod InOrder
pub mod FleetLaws
pub mod OrderLaws
pub mod WorkedLives
pub mod WorkedDues
pub mod WorkedLimits
pub mod WorkedForecast
mod WorkedFleet
