pub mod Entered
pub mod Imported
pub mod Listed
pub mod Moved
pub mod Tried
pub mod Verified
