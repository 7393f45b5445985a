pub mod Buffers
pub mod Sending
pub mod Daemons
pub mod Claim
pub mod Outgoing
pub mod Requests
