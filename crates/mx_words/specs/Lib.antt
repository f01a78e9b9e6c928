pub mod Done
pub mod command_line
