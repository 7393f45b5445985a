pub mod Arrivals
pub mod Places
pub mod Counts
pub mod States
pub mod Moments
pub mod Sends
pub mod Greens
pub mod Settled
