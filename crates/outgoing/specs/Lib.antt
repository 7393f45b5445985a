pub mod Lent
pub mod Sending
pub mod Resending
