pub mod DoneChain
pub mod DoneLate
pub mod DoneMoved
pub mod DoneReleased
pub mod DoneAdded
pub mod DoneOrder
pub mod DoneTable
pub mod DoneBecomes
pub mod DoneOnce
pub mod DoneFits
pub mod FoundLemmas
pub mod FoundBecomes
pub mod SpansApart
pub mod CrossingLemmas
pub mod CrossedRows
pub mod CrossesNone
mod WorkedCrossings
mod WorkedDone
