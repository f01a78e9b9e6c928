pub mod Kept
pub mod Own
pub mod Reopened
pub mod Created
pub mod Ended
pub mod Moved
pub mod Opened
