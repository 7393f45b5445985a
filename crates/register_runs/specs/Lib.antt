pub mod Joint
pub mod Registers
pub mod Depots
pub mod Claim
