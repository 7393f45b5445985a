pub mod Layout
pub mod Sections
pub mod Image
pub mod Header
pub mod Decode
pub mod Outcome
pub mod Holding
pub mod Counts
