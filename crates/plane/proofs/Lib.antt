pub mod Signed
pub mod Tests
pub mod Squares
