pub mod Blocks
pub mod Written
