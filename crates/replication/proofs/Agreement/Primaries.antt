pub mod Acted
pub mod Parts
pub mod Steps
pub mod Terms
pub mod Phases
pub mod Installed
pub mod Leaving
pub mod Orders
