pub mod Verified
pub mod answers
pub mod logs
pub mod upkeep
pub use Rattle.mx_office.specs.Calls
pub use Rattle.mx_office.specs.Faults
pub use Rattle.mx_office.specs.Layout
pub use Rattle.mx_office.specs.Office
pub use Rattle.mx_office.specs.Questions
pub use Rattle.mx_office.specs.Stands
pub use Rattle.mx_office.specs.declared.office.Office as OpenOffice
