pub mod DamageLemmas
pub mod BaseLookups
pub mod DoneLookups
pub mod DoneOrder
pub mod InForceLemmas
pub mod RebasedRows
