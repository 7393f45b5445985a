pub mod JointLaws
pub mod Folds
pub mod Agreement
pub mod DepotLaws
pub mod Holding
pub mod Joining
pub mod Entries
pub mod Depots
