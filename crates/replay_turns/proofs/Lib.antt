pub mod Goings
pub mod PassCode
pub mod PassLaws
pub mod TurnLaws
