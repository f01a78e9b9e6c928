pub mod ChosenProofs
pub mod TotalsProofs
