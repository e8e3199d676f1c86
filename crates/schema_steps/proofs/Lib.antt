pub mod EqualLemmas
pub mod StepLemmas
