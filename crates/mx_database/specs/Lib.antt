pub mod power
