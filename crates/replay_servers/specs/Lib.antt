pub mod Core
pub mod Starting
pub mod Table
