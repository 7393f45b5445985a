pub mod Swaps
pub mod Table
