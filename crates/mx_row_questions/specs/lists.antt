pub mod Listing
pub use Rattle.mx_row_judge.specs.Answering
pub use Rattle.mx_row_judge.specs.Damage
