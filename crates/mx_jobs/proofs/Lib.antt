pub mod EnteredLemmas
pub mod AnswersProofs
pub mod UpkeepProofs
pub use Rattle.mx_office.proofs.CallLemmas
pub use Rattle.mx_office.proofs.OfficeLemmas
pub use Rattle.mx_office.proofs.StandsLemmas
