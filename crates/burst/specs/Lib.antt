pub mod Next
pub mod Burst
pub mod Steps
pub mod Calls
pub mod Daemons
pub mod Claim
