pub mod Cuts
pub mod CountedLaws
