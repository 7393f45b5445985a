pub mod Queries
pub mod Reading
