pub mod Answering
pub mod Damage
pub mod View
pub mod known
