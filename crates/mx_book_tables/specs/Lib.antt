pub mod reading
pub mod stands
