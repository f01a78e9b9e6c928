pub mod Answer
pub mod Request
pub mod Serving
pub mod Stopped
