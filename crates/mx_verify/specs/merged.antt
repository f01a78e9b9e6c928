pub mod KeptBook
pub mod Keys
pub mod Merging
pub mod Blame
