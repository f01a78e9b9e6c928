pub mod DocumentLemmas
pub mod SameLemmas
pub mod ShapeLemmas
pub mod Worked
pub mod WorkedDefects
pub mod WorkedProgrammes
pub mod WorkedReleases
