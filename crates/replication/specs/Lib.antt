pub mod Machine
pub mod Images
pub mod Replay
pub mod Pairs
pub mod Runs
pub mod Laws
pub mod Audit
pub mod Opened
