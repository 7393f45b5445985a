pub mod Frames
pub mod Heads
pub mod Fields
pub mod Arms
pub mod Judged
pub mod Placing
pub mod Returns
pub mod Callers
