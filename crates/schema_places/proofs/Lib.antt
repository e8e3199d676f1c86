pub mod Levels
pub mod Queues
pub mod Entered
pub mod PlainLaws
pub mod Weights
pub mod Depths
pub mod ListLemmas
pub mod WalkLemmas
