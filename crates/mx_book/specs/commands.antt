pub mod Act
pub mod Said
pub mod Bounds
pub mod Same
pub mod Shape
pub mod Programme
