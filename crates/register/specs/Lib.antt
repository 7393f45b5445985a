pub mod Payloads
pub mod Changes
