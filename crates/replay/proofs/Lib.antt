pub mod PartCode
pub mod PartLaws
pub mod PrintsLaws
pub mod PrintsParts
pub mod PrintsTurns
pub mod ReachedLaws
pub mod ReadingLaws
pub mod ShownLaws
