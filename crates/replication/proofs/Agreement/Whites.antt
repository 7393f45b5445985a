pub mod Times
pub mod Lengths
pub mod Noted
pub mod Sources
pub mod Room
pub mod Everywhere
