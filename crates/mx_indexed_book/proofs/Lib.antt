pub mod MapsProofs
pub mod MomentsProofs
