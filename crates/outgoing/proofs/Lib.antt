pub mod LentFacts
pub mod LentLaws
pub mod WaitingLaws
pub mod GatherLaws
pub mod ResendingLaws
pub mod WalkLaws
pub mod PlanLaws
pub mod StateLaws
