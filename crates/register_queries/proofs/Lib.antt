pub mod Collected
pub mod Along
pub mod Answers
pub mod Given
