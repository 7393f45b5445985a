pub mod Answers
pub mod Events
pub mod Stages
pub mod Meeting
