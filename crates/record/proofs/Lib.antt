pub mod Start
pub mod Ranges
pub mod OnePass
pub mod Turns
pub mod SetCode
pub mod PartLaws
pub mod Codes
pub mod Chains
