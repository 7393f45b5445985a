pub mod Slots
pub mod Tally
pub mod Numbers
pub mod Collected
pub mod Checks
