pub mod Carrying
pub mod Answers
pub mod Burst
pub mod Depots
pub mod Claim
