pub mod Slots
pub mod Search
pub mod Numbers
pub mod Answers
