pub mod RequestProofs
pub mod ResponsesProofs
