pub mod request
pub mod responses
