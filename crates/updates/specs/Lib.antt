pub mod Lists
pub mod Noting
pub mod Standing
pub mod White
