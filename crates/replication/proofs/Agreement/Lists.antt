pub mod Plus
pub mod Common
pub mod Fifo
pub mod FifoPlus
pub mod Entered
pub mod Held
pub mod Install
pub mod Placed
