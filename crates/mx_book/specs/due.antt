pub mod Due
pub mod Left
pub mod Reach
pub mod Status
pub mod Moved
