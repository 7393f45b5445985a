pub mod CoreLaws
pub mod Keeping
pub mod StartingLaws
pub mod Tabled
