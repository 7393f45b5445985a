pub mod Context
pub mod Start
pub mod Values
pub mod Events
pub mod Limits
pub mod Codes
