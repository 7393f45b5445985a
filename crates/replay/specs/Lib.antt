pub mod Advancing
pub mod Parts
pub mod Reading
