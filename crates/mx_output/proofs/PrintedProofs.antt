pub mod WorkedEndings
pub mod WorkedFile
pub mod WorkedPoints
pub mod WorkedTrial
