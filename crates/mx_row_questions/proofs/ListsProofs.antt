pub mod ListStanding
pub mod ListLemmas
pub mod WorkedListing
