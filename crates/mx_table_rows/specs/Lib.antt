pub mod chosen
pub mod totals
