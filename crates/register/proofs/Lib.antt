pub mod Payloads
pub mod Made
pub mod Images
pub mod Applied
pub mod Exported
